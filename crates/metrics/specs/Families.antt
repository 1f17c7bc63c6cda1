-- Families of samples, in the text format of Prometheus.
use Rattle.std.specs.Prelude.{ℕ, List, [], ◌∷◌, ◌++◌, codes, decimal, flat_map, Option, None, Some}
use Rattle.std.specs.List.{concat}

-- the head of a family: what it tells, and of which kind it is
unfoldable pub head_text : List ℕ → List ℕ → List ℕ → List ℕ
head_text name kind help = concat (
    codes "# HELP " ∷ name ∷ codes " " ∷ help ∷ codes "\n# TYPE " ∷ name ∷ codes " " ∷ kind
    ∷ codes "\n" ∷ [])

-- a sample without labels
unfoldable pub number_text : List ℕ → ℕ → List ℕ
number_text name value = concat (name ∷ codes " " ∷ decimal value ∷ codes "\n" ∷ [])

-- a sample with one label, whose value is a word that needs no escape: `is_name_byte` of
-- `partitions` has no quote, backslash or end of a line
unfoldable pub sample_text : List ℕ → List ℕ → List ℕ → ℕ → List ℕ
sample_text name label word value = concat (
    name ∷ codes "{" ∷ label ∷ codes "=\"" ∷ word ∷ codes "\"} " ∷ decimal value ∷ codes "\n" ∷ [])

-- a sample of a class with one label more, whose values are such words
unfoldable pub of_class_text : List ℕ → List ℕ → List ℕ → List ℕ → ℕ → List ℕ
of_class_text name class label word value = concat (
    name ∷ codes "{class=\"" ∷ class ∷ codes "\"," ∷ label ∷ codes "=\"" ∷ word ∷ codes "\"} "
    ∷ decimal value ∷ codes "\n" ∷ [])

-- the bucket of a histogram below this bound
unfoldable pub bucket_text : List ℕ → List ℕ → ℕ → List ℕ
bucket_text name bound count = concat (
    name ∷ codes "_bucket{le=\"" ∷ bound ∷ codes "\"} " ∷ decimal count ∷ codes "\n" ∷ [])

-- the sum of a histogram's times, in seconds, of which it has nanoseconds; and how many there are
unfoldable pub totals_text : List ℕ → ℕ → ℕ → List ℕ
totals_text name sum count = concat (
    name ∷ codes "_sum " ∷ decimal sum ∷ codes "e-9\n" ∷ name ∷ codes "_count " ∷ decimal count
    ∷ codes "\n" ∷ [])

-- a sample for each word
abbrev pub samples_text : List ℕ → List ℕ → List (List ℕ × ℕ) → List ℕ
samples_text name label samples =
    flat_map (λ sample. sample_text name label sample.0 sample.1) samples

-- a family of one sample without labels
unfoldable pub gauge_text : List ℕ → List ℕ → ℕ → List ℕ
gauge_text name help value = head_text name (codes "gauge") help ++ number_text name value

-- a sample in seconds, of which it has nanoseconds
unfoldable pub seconds_text : List ℕ → ℕ → List ℕ
seconds_text name value = concat (name ∷ codes " " ∷ decimal value ∷ codes "e-9\n" ∷ [])

-- a sample by its text, where the value is known
abbrev pub where_known : (ℕ → List ℕ) → Option ℕ → List ℕ
where_known text None = []
where_known text (Some value) = text value

-- a family of one sample without labels, or of none where the value isn't known
unfoldable pub known_text : List ℕ → List ℕ → Option ℕ → List ℕ
known_text name help value =
    head_text name (codes "gauge") help ++ where_known (number_text name) value

-- the same in seconds, of which the value has nanoseconds
unfoldable pub known_seconds_text : List ℕ → List ℕ → Option ℕ → List ℕ
known_seconds_text name help value =
    head_text name (codes "gauge") help ++ where_known (seconds_text name) value

-- a family of counters, one for each word
abbrev pub counters_text : List ℕ → List ℕ → List ℕ → List (List ℕ × ℕ) → List ℕ
counters_text name label help samples =
    head_text name (codes "counter") help ++ samples_text name label samples

-- a histogram by its buckets, each a bound and its count
abbrev pub histogram_text : List ℕ → List ℕ → List (List ℕ × ℕ) → ℕ → ℕ → List ℕ
histogram_text name help buckets sum count =
    head_text name (codes "histogram") help
    ++ flat_map (λ bucket. bucket_text name bucket.0 bucket.1) buckets
    ++ totals_text name sum count
