-- One more time in a histogram.
use Rattle.std.proofs.Common.{◌≡◌, ◌∙◌, ◌<◌, ℕ, ◌+◌, Bool, true, false, List, [], ◌∷◌, cond, min}
use Rattle.std.proofs.Common.{ap, arith, length, refl}
use Rattle.std.proofs.lemmas.List.Sums.{sum_by-cons}
use Rattle.std.specs.Prelude.{filter, nat_le, slice_index, sum}
use Rattle.histogram.specs.declared.histogram.Histogram.{Histogram}
use Rattle.histogram.specs.Histogram.{IsHistogramOf, at_most, bounds, capped, one_more}

counted_by : (is_within : Bool) (time : ℕ) (within : List ℕ)
    → capped (capped (length within) + cond is_within 1 0)
    ≡ capped (length (cond is_within (time ∷ within) within))
counted_by true time within =
    let more : length (time ∷ within) ≡ length within + 1 = omega arith in
    omega arith
counted_by false time within = omega arith

-- a bucket of some times, once one more is noted
bucket_more : (times : List ℕ) (time bound count count' : ℕ) → count ≡ capped (at_most times bound)
    → count' ≡ one_more time bound count → count' ≡ capped (at_most (time ∷ times) bound)
bucket_more times time bound count count' was is =
    is ∙ ap (one_more time bound) was
    ∙ counted_by (nat_le time bound) time (filter (λ other. nat_le other bound) times)

sum_more : (times : List ℕ) (time : ℕ)
    → capped (capped (sum times) + time) ≡ capped (sum (time ∷ times))
sum_more times time =
    let all : sum (time ∷ times) ≡ time + sum times = sum_by-cons (λ x. x) time times in
    omega arith

count_more : (times : List ℕ) (time : ℕ)
    → capped (capped (length times) + 1) ≡ capped (length (time ∷ times))
count_more times time =
    let all : length (time ∷ times) ≡ length times + 1 = omega arith in
    omega arith

-- a histogram of some times is that of one more then
pub histogram_more : (h h' : Histogram) (times : List ℕ) (time : ℕ) → IsHistogramOf times h
    → ((place : ℕ) → place < length bounds → slice_index h'.counts place
    ≡ one_more time (slice_index bounds place) (slice_index h.counts place))
    → h'.count ≡ capped (h.count + 1) → h'.sum ≡ capped (h.sum + time)
    → IsHistogramOf (time ∷ times) h'
histogram_more h h' times time of counts count sums = record {
  counts = λ (place : ℕ) (few : place < length bounds).
      bucket_more times time (slice_index bounds place) (slice_index h.counts place)
      (slice_index h'.counts place) (of.counts place few) (counts place few);
  count = count ∙ ap (λ (n : ℕ). capped (n + 1)) of.count ∙ count_more times time;
  sum = sums ∙ ap (λ (n : ℕ). capped (n + time)) of.sum ∙ sum_more times time;
}
