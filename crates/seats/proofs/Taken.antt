-- Seats that are taken, and left.
use Rattle.std.proofs.Common.{◌≡◌, subst, sym, ap, refl, ℕ, ◌+◌, ◌<◌, ◌≤◌, Bool, true, false, cond}
use Rattle.std.proofs.Common.{List, [], ◌∷◌, ◌++◌, All, length, arith, ◌∙◌}
use Rattle.std.proofs.Common.{Option, Some, None, IfNone, IfSome, IsSome}
use Rattle.std.proofs.lemmas.Bool.{false≢true}
use Rattle.std.proofs.lemmas.List.{length-append}
use Rattle.std.proofs.lemmas.List.Elements.{All-cons, All-head, All-nil, All-push, All-tail}
use Rattle.std.specs.Map.{remove_entry}
use Rattle.std.specs.declared.time.Duration.{Duration}
use Rattle.seats.specs.Seats.{AreSeats, HasLeft, JoinedRows, LeftEither, MadeRoom, Seating}
use Rattle.seats.specs.Seats.{Waiting, behind, comes_first, joined, taken_in}
use Rattle.seats.specs.declared.row.Seated.{Seated}

module _ {X : Type 0} where
  -- its number is below
  abbrev Below : ℕ → ℕ × X → Type 0
  Below n e = e.0 < n

  -- what holds of all holds of those who stay
  All-stays : (P : ℕ × X → Type 0) (test : ℕ → Bool) (es : List (ℕ × X)) → All P es
      → All P (remove_entry test es)
  All-stays P test [] all = All-nil P
  All-stays P test (e ∷ es) all =
      by (test e.0) (All-stays P test es (All-tail P e es all)) where
        by : (b : Bool) → All P (remove_entry test es)
            → All P (cond b es (e ∷ remove_entry test es))
        by true rest = All-tail P e es all
        by false rest = All-cons P e _ (All-head P e es all) rest

  fewer : (test : ℕ → Bool) (es : List (ℕ × X)) → length (remove_entry test es) ≤ length es
  fewer test [] = omega arith
  fewer test (e ∷ es) = by (test e.0) (fewer test es) where
    by : (b : Bool) → length (remove_entry test es) ≤ length es
        → length (cond b es (e ∷ remove_entry test es)) ≤ length (e ∷ es)
    by true rest = omega arith
    by false rest = omega (arith, rest)

-- the first one leaves
first_leaves : {T : Type 0} (whole rest : List (ℕ × Seated T)) (first : ℕ × Seated T) (next : ℕ)
    → All (Below next) whole → whole ≡ first ∷ rest → All (Below next) rest
first_leaves whole rest first next all is =
    All-tail (Below next) first rest (subst (All (Below next)) is all)

module _ {T : Type 0} where
  -- a row without those whose number passes
  abbrev without : (ℕ → Bool) → Waiting T → Waiting T
  without test row = record row { taken = remove_entry test row.taken }

  -- one of a row leaves
  pub silent_less : (test : ℕ → Bool) (s k : Waiting T) (next places : ℕ)
      → AreSeats s k next places → AreSeats (without test s) k next places
  silent_less test s k next places seats = record {
    silent_below = All-stays (Below next) test s.taken seats.silent_below;
    kept_below = seats.kept_below;
    few = omega (arith, fewer test s.taken, seats.few);
    silent_room = seats.silent_room;
    kept_room = seats.kept_room;
  }

  pub kept_less : (test : ℕ → Bool) (s k : Waiting T) (next places : ℕ)
      → AreSeats s k next places → AreSeats s (without test k) next places
  kept_less test s k next places seats = record {
    silent_below = seats.silent_below;
    kept_below = All-stays (Below next) test k.taken seats.kept_below;
    few = omega (arith, fewer test k.taken, seats.few);
    silent_room = seats.silent_room;
    kept_room = seats.kept_room;
  }

  -- the first one of a row leaves
  pub silent_leaves : (s k s' : Waiting T) (first : ℕ × Seated T) (next places : ℕ)
      → AreSeats s k next places → s.taken ≡ first ∷ s'.taken → s'.room ≡ s.room
      → AreSeats s' k next places
  silent_leaves s k s' first next places seats is room = record {
    silent_below = first_leaves s.taken s'.taken first next seats.silent_below is;
    kept_below = seats.kept_below;
    few = omega (arith, seats.few, ap length is);
    silent_room = omega (arith, seats.silent_room, room);
    kept_room = seats.kept_room;
  }

  kept_leaves : (s k k' : Waiting T) (first : ℕ × Seated T) (next places : ℕ)
      → AreSeats s k next places → k.taken ≡ first ∷ k'.taken → k'.room ≡ k.room
      → AreSeats s k' next places
  kept_leaves s k k' first next places seats is room = record {
    silent_below = seats.silent_below;
    kept_below = first_leaves k.taken k'.taken first next seats.kept_below is;
    few = omega (arith, seats.few, ap length is);
    silent_room = seats.silent_room;
    kept_room = omega (arith, seats.kept_room, room);
  }

  -- the first one of those who are kept leaves, where somebody does
  pub late_leaves : (late : Option T) (s k s' k' : Waiting T) (next places : ℕ)
      → AreSeats s k next places → s' ≡ s
      → IfSome late (λ who. (number : ℕ) × (since : Duration)
      × (k.taken ≡ (number, record { who = who; since = since }) ∷ k'.taken))
      → k'.room ≡ k.room → IfNone late (k' ≡ k) → AreSeats s' k' next places
  late_leaves None s k s' k' next places seats same first room unchanged =
      subst (λ (row : Waiting T). AreSeats row k' next places) (sym same)
      (subst (λ (row : Waiting T). AreSeats s row next places) (sym unchanged) seats)
  late_leaves (Some who) s k s' k' next places seats same first room unchanged =
      subst (λ (row : Waiting T). AreSeats row k' next places) (sym same)
      (kept_leaves s k k' (first.0, record { who = who; since = first.1 }) next places seats
      first.2 room)

  all_less : (next : ℕ) (es : List (ℕ × Seated T)) → All (Below next) es
      → All (Below (next + 1)) es
  all_less next [] all = All-nil (Below (next + 1))
  all_less next (e ∷ es) all = All-cons (Below (next + 1)) e es
      (omega (arith, All-head (Below next) e es all))
      (all_less next es (All-tail (Below next) e es all))

  -- one came behind all others
  come : (es : List (ℕ × Seated T)) (next : ℕ) (one : Seated T) → All (Below next) es
      → All (Below (next + 1)) (es ++ (next, one) ∷ [])
  come es next one below =
      All-push (Below (next + 1)) es (next, one) (all_less next es below) (omega arith)

  -- seats by their rows
  abbrev pub seating : ℕ → ℕ → Waiting T → Waiting T → Seating T
  seating places next silent kept =
      record { silent = silent; kept = kept; places = places; next = next }

  -- two rows whose numbers are below this one, that have so many together, and room for more than
  -- there are places
  record Rows (next many places : ℕ) (silent kept : Waiting T) : Type 0 where
    silent_below : All (Below next) silent.taken
    kept_below : All (Below next) kept.taken
    many_are : length silent.taken + length kept.taken ≡ many
    silent_room : places < silent.room
    kept_room : places < kept.room

  -- of two rows where one more came to one of them
  module _ (next many places : ℕ) (one : Seated T) (s k s' k' : Waiting T)
      (rows : Rows next many places s k) where
    rows_joined : (is_kept : Bool) → JoinedRows is_kept (next, one) s k s' k'
        → Rows (next + 1) (many + 1) places s' k'
    rows_joined true is = record {
      silent_below = subst (λ (row : Waiting T). All (Below (next + 1)) row.taken) (sym is.0)
          (all_less next s.taken rows.silent_below);
      kept_below = subst (λ (row : Waiting T). All (Below (next + 1)) row.taken) (sym is.1)
          (come k.taken next one rows.kept_below);
      many_are = omega (
        arith,
        rows.many_are,
        ap (λ (row : Waiting T). length row.taken) is.0,
        ap (λ (row : Waiting T). length row.taken) is.1,
        length-append k.taken ((next, one) ∷ []),
      );
      silent_room = omega (arith, rows.silent_room, ap (λ (row : Waiting T). row.room) is.0);
      kept_room = omega (arith, rows.kept_room, ap (λ (row : Waiting T). row.room) is.1);
    }
    rows_joined false is = record {
      silent_below = subst (λ (row : Waiting T). All (Below (next + 1)) row.taken) (sym is.0)
          (come s.taken next one rows.silent_below);
      kept_below = subst (λ (row : Waiting T). All (Below (next + 1)) row.taken) (sym is.1)
          (all_less next k.taken rows.kept_below);
      many_are = omega (
        arith,
        rows.many_are,
        ap (λ (row : Waiting T). length row.taken) is.0,
        ap (λ (row : Waiting T). length row.taken) is.1,
        length-append s.taken ((next, one) ∷ []),
      );
      silent_room = omega (arith, rows.silent_room, ap (λ (row : Waiting T). row.room) is.0);
      kept_room = omega (arith, rows.kept_room, ap (λ (row : Waiting T). row.room) is.1);
    }

  rows_left : (first : Bool) (next many places : ℕ) (e : ℕ × Seated T) (s k s' k' : Waiting T)
      → Rows next (many + 1) places s k → LeftEither first (Some e) s k s' k'
      → Rows next many places s' k'
  rows_left true next many places e s k s' k' rows is = record {
    silent_below = first_leaves s.taken s'.taken e next rows.silent_below is.0.0;
    kept_below = subst (λ (row : Waiting T). All (Below next) row.taken) (sym is.1)
        rows.kept_below;
    many_are = omega (
      arith,
      rows.many_are,
      ap length is.0.0,
      ap (λ (row : Waiting T). length row.taken) is.1,
    );
    silent_room = omega (arith, rows.silent_room, is.0.2);
    kept_room = omega (arith, rows.kept_room, ap (λ (row : Waiting T). row.room) is.1);
  }
  rows_left false next many places e s k s' k' rows is = record {
    silent_below = subst (λ (row : Waiting T). All (Below next) row.taken) (sym is.1)
        rows.silent_below;
    kept_below = first_leaves k.taken k'.taken e next rows.kept_below is.0.0;
    many_are = omega (
      arith,
      rows.many_are,
      ap length is.0.0,
      ap (λ (row : Waiting T). length row.taken) is.1,
    );
    silent_room = omega (arith, rows.silent_room, ap (λ (row : Waiting T). row.room) is.1);
    kept_room = omega (arith, rows.kept_room, is.0.2);
  }

  -- what becomes of seats where one more takes one, and somebody leaves where there are too few
  pub record AreSeated (seats new : Seating T) (entry : ℕ × Seated T) (is_kept : Bool)
      (displaced : Option (ℕ × Seated T)) : Type 0 where
    pub invariant : AreSeats new.silent new.kept (seats.next + 1) new.places
    pub seated : HasLeft displaced (joined is_kept entry seats) new
    pub full : IsSome displaced → length (taken_in seats) ≡ seats.places

  -- where rows were joined by one
  joined_is : (is_kept : Bool) (entry : ℕ × Seated T) (places next : ℕ) (s k s' k' : Waiting T)
      → JoinedRows is_kept entry s k s' k'
      → seating places (next + 1) s' k' ≡ joined is_kept entry (seating places next s k)
  joined_is true entry places next s k s' k' is =
      ap (λ (row : Waiting T). seating places (next + 1) row k') is.0
      ∙ ap (λ (row : Waiting T). seating places (next + 1) s row) is.1
  joined_is false entry places next s k s' k' is =
      ap (λ (row : Waiting T). seating places (next + 1) row k') is.0
      ∙ ap (λ (row : Waiting T). seating places (next + 1) (behind entry s) row) is.1

  -- the rows of seats
  rows_of : (seats : Seating T) → AreSeats seats.silent seats.kept seats.next seats.places
      → Rows seats.next (length seats.silent.taken + length seats.kept.taken) seats.places
      seats.silent seats.kept
  rows_of seats are = record {
    silent_below = are.silent_below;
    kept_below = are.kept_below;
    many_are = refl;
    silent_room = are.silent_room;
    kept_room = are.kept_room;
  }

  pub all_seated : (seats : Seating T) (one : Seated T) (is_kept : Bool)
      (displaced : Option (ℕ × Seated T)) (s' k' s'' k'' : Waiting T)
      → AreSeats seats.silent seats.kept seats.next seats.places
      → JoinedRows is_kept (seats.next, one) seats.silent seats.kept s' k'
      → MadeRoom seats.places displaced s' k' s'' k''
      → AreSeated seats (seating seats.places (seats.next + 1) s'' k'') (seats.next, one) is_kept
      displaced
  all_seated seats one is_kept None s' k' s'' k'' are is made =
      let rows = rows_joined seats.next _ seats.places one seats.silent seats.kept s' k'
      (rows_of seats are) is_kept is in
      let new = seating seats.places (seats.next + 1) in
      record {
        invariant = record {
          silent_below = subst (λ (row : Waiting T). All (Below (seats.next + 1)) row.taken)
              (sym made.0) rows.silent_below;
          kept_below = subst (λ (row : Waiting T). All (Below (seats.next + 1)) row.taken)
              (sym made.1) rows.kept_below;
          few = omega (
            arith,
            made.2,
            ap (λ (row : Waiting T). length row.taken) made.0,
            ap (λ (row : Waiting T). length row.taken) made.1,
          );
          silent_room = omega (
            arith,
            rows.silent_room,
            ap (λ (row : Waiting T). row.room) made.0,
          );
          kept_room = omega (
            arith,
            rows.kept_room,
            ap (λ (row : Waiting T). row.room) made.1,
          );
        };
        seated = ap (λ (row : Waiting T). new row k'') made.0
            ∙ ap (λ (row : Waiting T). new s' row) made.1
            ∙ joined_is is_kept (seats.next, one) seats.places seats.next seats.silent seats.kept
            s' k' is;
        full = λ some. absurd (false≢true some);
      }
  all_seated seats one is_kept (Some e) s' k' s'' k'' are is made =
      let rows = rows_joined seats.next _ seats.places one seats.silent seats.kept s' k'
      (rows_of seats are) is_kept is in
      let left = rows_left (comes_first s'.taken k'.taken) (seats.next + 1) _ seats.places e s'
      k' s'' k'' rows made.0 in
      let new = seating seats.places (seats.next + 1) s'' k'' in
      record {
        invariant = record {
          silent_below = left.silent_below;
          kept_below = left.kept_below;
          few = omega (arith, left.many_are, are.few);
          silent_room = left.silent_room;
          kept_room = left.kept_room;
        };
        seated = subst (λ (old : Seating T). HasLeft (Some e) old new)
            (joined_is is_kept (seats.next, one) seats.places seats.next seats.silent seats.kept
            s' k' is)
            (made.0, refl, refl);
        full = λ some. omega (
          arith,
          made.1,
          rows.many_are,
          are.few,
          length-append seats.silent.taken seats.kept.taken,
        );
      }
