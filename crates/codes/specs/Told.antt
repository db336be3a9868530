-- What 64 bits tell a host of an answer, for every call of the C interface: whether the call was accepted, its value or its cause, and so the
-- answer itself. The sentences are those of include/teldruf.h.
use Rattle.std.specs.Prelude.{ℕ, ◌*◌, ◌/◌, ◌^◌, ◌≤◌, ◌<◌, List, ◌↔◌, ◌≡◌, ℤ, length, get_or, take, drop}
use Rattle.calls.specs.Judging.{verdict_numbers}
use Rattle.calls.specs.Calls.{built, built_numbers, open_verdict, MapCall, map_verdict}
use Rattle.calls.specs.Reversed.{reversed_call}
use Rattle.calls.specs.Combined.{combined_verdict}
use Rattle.viewer.specs.View.{viewed, viewed_numbers}
use Rattle.pgm_read.specs.Read.{found_numbers}
use Rattle.std.specs.Prelude.{Result}
use Rattle.causes.specs.declared.Cause.{Cause}
use Rattle.pgm_read.specs.declared.Picture.{Picture}
use Rattle.pgm_write.specs.Write.{write_answer, written_numbers}
use Rattle.codes.specs.Codes.{value_limit, code_of, number_code, head_with}

-- the number of an answer, and its value, 0 where it has none
abbrev pub number_in : List ℕ → ℕ
number_in numbers = get_or numbers 0 0

abbrev pub value_in : List ℕ → ℕ
value_in numbers = get_or numbers 1 0

-- what the bits that a call answers tell of the numbers of its answer
pub record Told (code : ℕ) (numbers : List ℕ) : Type 0 where
  -- "Below 2^32 the call was accepted"
  pub accepted : code < value_limit ↔ number_in numbers ≡ 0
  -- "and the answer is its value."
  pub value : code < value_limit → code ≡ value_in numbers
  -- "Otherwise it was refused, the answer is the cause's number times 2^32"
  pub refused : value_limit ≤ code → code ≡ number_in numbers * value_limit
  -- "The number of the cause in an answer, 0 if the call was accepted": the upper half of the bits
  pub number : code / value_limit ≡ number_in numbers
  -- "Every call answers 64 bits."
  pub fits : code < 2 ^ 64

-- of a kind of calls: every answer is told, and two calls that answer the same bits have the same answer
pub record Unambiguous {Call Answer : Type 0} (answer : Call → Answer) (numbers : Answer → List ℕ) : Type 0 where
  pub told : (call : Call) → Told (code_of (numbers (answer call))) (numbers (answer call))
  pub same : (c d : Call) → code_of (numbers (answer c)) ≡ code_of (numbers (answer d)) → answer c ≡ answer d

-- what a call of the writer names and is lent, and its answer
pub record WriteCall : Type 0 where
  pub picture : List ℕ
  pub width : ℕ
  pub height : ℕ
  pub maximum : ℕ
  pub buffer : List ℕ

abbrev pub written : WriteCall → Result ℕ Cause
written call = write_answer call.picture call.width call.height call.maximum (length call.buffer)

-- of the reader's answers, whatever file and number they are for: the bits tell the number, and the head, of four words, the values
pub record HeadTold : Type 0 where
  pub told : (found : Result Picture Cause) → Told (number_code (found_numbers found)) (take 1 (found_numbers found))
  -- an accepted call leaves its values in the head
  pub values : (found : Result Picture Cause) (head : List ℕ) → length head ≡ 4 → number_code (found_numbers found) < value_limit
      → head_with found head ≡ drop 1 (found_numbers found)
  -- a refused one leaves it "as it was"
  pub left : (found : Result Picture Cause) (head : List ℕ) → value_limit ≤ number_code (found_numbers found) → head_with found head ≡ head
  -- two calls that answer the same bits and leave the same head have the same answer
  pub same : (f g : Result Picture Cause) (head other : List ℕ) → length head ≡ 4 → length other ≡ 4
      → number_code (found_numbers f) ≡ number_code (found_numbers g) → head_with f head ≡ head_with g other → f ≡ g

-- every call of the C interface, accepted or refused, whatever it names and is lent; opening and mapping are by steps of either kind
pub record CallsTold : Type 0 where
  pub reading : HeadTold
  pub writing : Unambiguous written written_numbers
  pub building : Unambiguous built built_numbers
  pub opening : Unambiguous open_verdict verdict_numbers
  pub mapping : Unambiguous map_verdict verdict_numbers
  pub dark_mapping : Unambiguous (λ (call : MapCall). map_verdict (reversed_call call)) verdict_numbers
  pub combining : Unambiguous (λ (call : MapCall × List ℤ). combined_verdict call.0 call.1) verdict_numbers
  pub viewing : Unambiguous viewed viewed_numbers
