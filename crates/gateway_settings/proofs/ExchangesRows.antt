-- Worked rows of settings for a number of exchanges, by computation over the definitions.
use Rattle.std.proofs.Common.{◌≡◌, ℕ, true, false, max, List, [], ◌∷◌, codes, refl, None}
use Rattle.lemmas.specs.Extremes.{greatest, least}
use Rattle.auto.specs.AutoRules.{auto_from}
use Rattle.limit_kinds.specs.AnyKinds.{any_rules}
use Rattle.limit_kinds.specs.declared.kinds.AnyLimit.{AnyLimit}
use Rattle.limit_kinds.specs.declared.kinds.AnyLimit.TheVariants.{Plain}
use Rattle.limit_kinds.specs.declared.kinds.BaseLimit.TheVariants.{Fixed, Auto}
use Rattle.limit_kinds.specs.declared.kinds.LimitSpec.TheVariants.{Aimd}
use Rattle.limit_kinds.specs.Kinds.{first_limit}
use Rattle.limiter_core.specs.declared.promote.Promote.TheVariants.{Newest}
use Rattle.partitions.specs.Table.{Row, thousandths_share}
use Rattle.gateway_settings.specs.declared.settings.Settings.{Settings}
use Rattle.gateway_settings.specs.Exchanges.{settings_for, wanted}

-- settings without a backlog and a greatest limit of their own
abbrev left_out : List Row → AnyLimit → Settings
left_out rows limit = record {
  listen = codes "127.0.0.1:8080";
  backend = codes "127.0.0.1:9090";
  backlog = 100;
  wait = true;
  timeout_ns = 1000000000;
  clients = 0;
  client_idle_ns = 0;
  backends = 0;
  backend_idle_ns = 0;
  bodies_mib = 1048576;
  keep = 1000;
  promote = Newest;
  limit = limit;
  table = rows;
  rules = record { resolvers = []; bypass = [] };
  omitted = record { backlog = true; limit_max = true; bodies = true };
  exchanges = None;
}

abbrev fixed : ℕ → AnyLimit
fixed permits = Plain (Fixed permits)

abbrev auto : ℕ → ℕ → AnyLimit
auto lo hi = Plain (Auto (auto_from lo (max lo 4) hi))

abbrev aimd : AnyLimit
aimd = Plain (first_limit (Aimd (record {
  lo = 1;
  first = 20;
  hi = 200;
  ratio_thousandths = 900;
  timeout_ns = 5000000000;
})))

-- a class with half of the limit and no places of its own
abbrev half : List Row
half = record { name = codes "a"; thousandths = 500; places = 0 } ∷ []

-- the backlog, the first limit and the greatest limit for n exchanges
abbrev numbers : ℕ → Settings → ℕ × ℕ × ℕ
numbers n s =
    let made = settings_for n s in
    (made.backlog, any_rules.limit made.limit, any_rules.hi made.limit)

-- a fixed limit of 200: 267 exchanges have a backlog of 66, and 266 are one too few
a_fixed_limit_wants_267 : wanted 267 (left_out [] (fixed 200)) 200 ≡ 267
a_fixed_limit_wants_267 = refl

one_less_is_too_few : wanted 266 (left_out [] (fixed 200)) 200 ≡ 267
one_less_is_too_few = refl

auto_has_what_the_backlog_leaves : numbers 1024 (left_out [] (auto 1 1000)) ≡ (100, 4, 923)
unfolding greatest
auto_has_what_the_backlog_leaves = refl

auto_of_4_begins_at_2 : numbers 4 (left_out [] (auto 1 1000)) ≡ (1, 2, 2)
unfolding greatest
auto_of_4_begins_at_2 = refl

-- the share of 31 is 16, and 16 places and one refusal are left
a_class_has_its_share_of_what_is_left : numbers 64 (left_out half (auto 1 40)) ≡ (16, 4, 31)
unfolding greatest thousandths_share least
a_class_has_its_share_of_what_is_left = refl

a_max_of_auto_stays_where_it_is_less : numbers 64 (left_out [] (auto 1 40)) ≡ (16, 4, 40)
unfolding greatest
a_max_of_auto_stays_where_it_is_less = refl

nobody_waits : numbers 64 (record (left_out [] (auto 1 80)) { wait = false }) ≡ (16, 4, 63)
unfolding greatest
nobody_waits = refl

-- 67 are wanted by a least limit of 50
a_min_above_what_is_left : wanted 64 (left_out [] (auto 50 80)) 50 ≡ 67
a_min_above_what_is_left = refl

a_written_backlog_stays : numbers 64
    (record (left_out [] (auto 1 80)) {
      backlog = 30;
      omitted = record { backlog = false; limit_max = true; bodies = true };
    }) ≡ (30, 4, 33)
unfolding greatest
a_written_backlog_stays = refl

an_omitted_max_of_aimd_lowers_the_first_limit : numbers 16 (left_out [] aimd) ≡ (4, 11, 11)
unfolding greatest
an_omitted_max_of_aimd_lowers_the_first_limit = refl
