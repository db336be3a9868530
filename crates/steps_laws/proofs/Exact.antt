-- A file that is accepted is the one that spells what it gives. So a file is accepted exactly if it spells an attribute and a step list.
use Prim.Native.Nat.{ℕ, ◌≤◌}
use mathlib.Core.Path.{◌≡◌, refl, sym, ◌∙◌, ap}
use mathlib.Core.Bool.{Bool, true, false, cond, false≢true}
use mathlib.Core.List.{List, [], ◌∷◌, ◌++◌, append-nil}
use mathlib.Core.Logic.{◌↔◌}
use native.Mathlib.Omega.{arith}
use lib.Dec.{eqb}
use lib.ListN.{length, drop, drop_of_length-le}
use borrow.Author.Tests.{eqb-true}
use Rattle.causes.proofs.Laws.{both_true}
use Rattle.pgm_write.specs.Write.{decimal}
use Rattle.calls.specs.Judging.{attribute_good, threshold_good, all_good}
use Rattle.steps.specs.Fields.{is_word, is_number, starts_with, same, area, height, width, attribute_of}
use Rattle.steps.specs.Lines.{ends_line, longer, lines, attribute_head, step_head, attribute_line, step_line, step_lines, shaped, well_formed, threshold, thresholds, word_on, listed}
use Rattle.steps.specs.Answer.{attribute_in, steps_in, parsed_steps, parse_answer}
use Rattle.steps.proofs.Laws.{accepted_file}
use Rattle.steps_laws.specs.Spelled.{name_of, spelled_steps, spelled_file, Spells, Gives}
use Rattle.steps_laws.proofs.Digits.{number_written}
use Rattle.calls.proofs.Accepted.{step_list}
use Rattle.steps_laws.proofs.Spelling.{ends_cons, threshold_fits, spelled_gives}

-- the lines, each with the byte 10 that ends it
ended_lines : List (List ℕ) → List ℕ
ended_lines [] = []
ended_lines (line ∷ rest) = line ++ 10 ∷ ended_lines rest

ended_longer : (b c : ℕ) (s : List ℕ) (ls : List (List ℕ)) → ended_lines ls ≡ c ∷ s → ended_lines (longer b ls) ≡ b ∷ c ∷ s
unfolding ended_lines
ended_longer b c s [] e = absurd (let z : ◌≡◌ {A = ℕ} 0 1 = cc in omega arith)
ended_longer b c s (line ∷ rest) e = ap (λ (l : List ℕ). b ∷ l) e

-- "Each line ends with byte 10.": a file whose last byte is 10 is its lines, ended
file_lines : (file : List ℕ) → ends_line file ≡ true → ended_lines (lines file) ≡ file
unfolding ended_lines lines ends_line
file_lines [] e = absurd (false≢true e)
file_lines (b ∷ []) e = let ten : b ≡ 10 = eqb-true b 10 e in rw ten
file_lines (b ∷ c ∷ s) e = go (eqb b 10) refl (file_lines (c ∷ s) (sym (ends_cons b (c ∷ s) (omega arith)) ∙ e))
  where
    go : (t : Bool) → eqb b 10 ≡ t → ended_lines (lines (c ∷ s)) ≡ c ∷ s
        → ended_lines (cond t ([] ∷ lines (c ∷ s)) (longer b (lines (c ∷ s)))) ≡ b ∷ c ∷ s
    go true ten later = rw (eqb-true b 10 ten) (ap (λ (l : List ℕ). 10 ∷ l) later)
    go false other later = ended_longer b c s (lines (c ∷ s)) later

same_ended : {a b s t : List ℕ} → a ≡ b → s ≡ t → a ++ 10 ∷ s ≡ b ++ 10 ∷ t
same_ended e f = cc

-- a head, and what follows it
head_first : (head s : List ℕ) → starts_with head s ≡ true → head ++ drop (length head) s ≡ s
unfolding starts_with
head_first [] s e = refl
head_first (a ∷ head) [] e = absurd (false≢true e)
head_first (a ∷ head) (b ∷ s) e =
    let p = both_true (eqb b a) (starts_with head s) e in
    let here : b ≡ a = eqb-true b a p.0 in
    let later = head_first head s p.1 in
    cc

same_word : (word s : List ℕ) → same word s ≡ true → word ≡ s
same_word word s e =
    let p = both_true (eqb (length s) (length word)) (starts_with word s) e in
    let size : length s ≡ length word = eqb-true (length s) (length word) p.0 in
    rw (drop_of_length-le s {i = length word} (omega arith), append-nil) at (head_first word s p.1)

-- a word that names an attribute is its name
record NamedBy (word : List ℕ) : Type 0 where
  known : attribute_good (attribute_of word) ≡ true
  name : name_of (attribute_of word) ≡ word

named_by : (word : List ℕ) → 1 ≤ attribute_of word → NamedBy word
unfolding attribute_of name_of attribute_good
named_by word some = go (same area word) (same height word) (same width word) refl refl refl
  where
    go : (a h w : Bool) → same area word ≡ a → same height word ≡ h → same width word ≡ w → NamedBy word
    go true h w ea eh ew = record { known = rw ea; name = rw ea (same_word area word ea) }
    go false true w ea eh ew = record { known = rw (ea, eh); name = rw (ea, eh) (same_word height word eh) }
    go false false true ea eh ew = record { known = rw (ea, eh, ew); name = rw (ea, eh, ew) (same_word width word ew) }
    go false false false ea eh ew =
        let none : 1 ≤ 0 = rw (ea, eh, ew) at some in
        absurd (omega arith)

-- a step line with a good threshold is the line that spells it
step_spelled : (line : List ℕ) → step_line line ≡ true → threshold_good (threshold line) ≡ true → step_head ++ decimal 7 (threshold line) ≡ line
unfolding step_line threshold
step_spelled line e good =
    let p = both_true (starts_with step_head line) (is_number (drop 5 line)) e in
    rw (number_written (drop 5 line) p.1 (threshold_fits (threshold line) good)) (head_first step_head line p.0)

steps_spelled : (rest : List (List ℕ)) → step_lines rest ≡ true → all_good (thresholds rest) ≡ true
    → spelled_steps (thresholds rest) ≡ ended_lines rest
unfolding step_lines thresholds all_good spelled_steps ended_lines
steps_spelled [] e good = refl
steps_spelled (line ∷ rest) e good =
    let p = both_true (step_line line) (step_lines rest) e in
    let q = both_true (threshold_good (threshold line)) (all_good (thresholds rest)) good in
    same_ended (step_spelled line p.0 q.0) (steps_spelled rest p.1 q.1)

lines_spelled : (ls : List (List ℕ)) → shaped ls ≡ true → 1 ≤ attribute_of (word_on ls) → all_good (listed ls) ≡ true
    → spelled_file (attribute_of (word_on ls)) (listed ls) ≡ ended_lines ls
unfolding shaped attribute_line spelled_file ended_lines
lines_spelled [] e some good = absurd (false≢true e)
lines_spelled (first ∷ rest) e some good =
    let p = both_true (attribute_line first) (step_lines rest) e in
    let q = both_true (starts_with attribute_head first) (is_word (drop 10 first)) p.0 in
    let name : name_of (attribute_of (drop 10 first)) ≡ drop 10 first = (named_by (drop 10 first) some).name in
    same_ended
    (ap (λ (word : List ℕ). attribute_head ++ word) name ∙ head_first attribute_head first q.0)
    (steps_spelled rest p.1 good)

-- an accepted file spells its attribute and its steps
accepted_spells : (file : List ℕ) (attribute count : ℕ) → parse_answer file ≡ parsed_steps attribute count → Spells file attribute (steps_in file)
unfolding attribute_in steps_in well_formed
accepted_spells file attribute count e =
    let a = accepted_file file attribute count e in
    let p = both_true (ends_line file) (shaped (lines file)) a.shape in
    let some : 1 ≤ attribute_of (word_on (lines file)) = rw a.named at a.some_attribute in
    rw a.named
    (record {
      known = (named_by (word_on (lines file)) some).known;
      step_list = a.step_list;
      bytes = sym (lines_spelled (lines file) p.1 some (step_list (steps_in file) a.step_list).each_good ∙ file_lines file p.0);
    })

-- a file is accepted with an attribute and steps exactly if it is, byte for byte, the file that spells them
pub accepted_exactly : (file : List ℕ) (attribute : ℕ) (steps : List ℕ) → Gives file attribute steps ↔ Spells file attribute steps
accepted_exactly file attribute steps = (read, written)
  where
    read : Gives file attribute steps → Spells file attribute steps
    read g = rw g.listed at (accepted_spells file attribute (length steps) g.answer)

    written : Spells file attribute steps → Gives file attribute steps
    written s = rw s.bytes (spelled_gives attribute steps s.known s.step_list)
