-- A text that is told, as it is kept.
use Rattle.std.specs.Prelude.{ℕ, List, string_bytes}
use Rattle.operator_serving.specs.declared.response.ResponseText.{ResponseText}
use Rattle.operator_serving.specs.declared.response.ResponseText.TheVariants.{Standing, Made}

abbrev pub text_of : ResponseText → List ℕ
text_of (Standing text) = text.now
text_of (Made text) = string_bytes text
