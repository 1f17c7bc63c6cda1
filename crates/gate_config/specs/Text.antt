-- The text at a key, and the tests that it may have to pass.
use Rattle.std.specs.List.{list_all, list_any, starts_with}
use Rattle.std.specs.Prelude.{ℕ, Bool, ◌&&◌, List, [], length, Option, Some, None, unwrap_or, Result, Ok, Err, bytes_eq, nat_eq, nat_le, codes, if◌then◌else◌}
use Rattle.http_header.specs.Token.{is_token_byte}
use Rattle.toml.specs.Data.{Data, as_str, string}
use Rattle.gate_config.specs.declared.fault.ConfigFault.{ConfigFault}
use Rattle.gate_config.specs.declared.fault.ConfigFault.TheVariants as Fault
use Rattle.gate_config.specs.declared.key.Key.{Key}
use Rattle.gate_config.specs.Fault.{plain}

-- a text that passes the test
abbrev pub text_from : Key → (List ℕ → Bool) → Option Data → Result (List ℕ) ConfigFault
text_from key fits None = Err (Fault.Missing (plain key))
text_from key fits (Some (string s)) = if fits s then Ok s else Err (Fault.Value (plain key))
text_from key fits (Some _) = Err (Fault.Kind (plain key))

-- one of the words
abbrev pub is_among : List (List ℕ) → List ℕ → Bool
is_among words s = list_any (λ w. bytes_eq s w) words

-- one of the words, or the default
abbrev pub choice_from : Key → List (List ℕ) → List ℕ → Option Data → Result (List ℕ) ConfigFault
choice_from key words default None = Ok default
choice_from key words default (Some d) = text_from key (is_among words) (Some d)

-- one or more of the bytes of tokens (RFC 9110, section 5.6.2)
abbrev pub is_token : List ℕ → Bool
is_token s = nat_le 1 (length s) && list_all is_token_byte s

-- the beginning of a path
abbrev pub begins_path : List ℕ → Bool
begins_path s = starts_with nat_eq s (codes "/")

-- the text of a string, and of any other value the empty one
abbrev pub string_of : Data → List ℕ
string_of d = unwrap_or (as_str d) []
