-- What a number and a header that were read give, part by part: where each part stands, and that the header ends after it starts. Assumes nothing.
use Prim.Native.Nat.{ℕ, ◌+◌, ◌≤◌, ◌<◌}
use mathlib.Core.Path.{◌≡◌, refl, sym, ◌∙◌, subst}
use mathlib.Core.Bool.{Bool, true, false, cond}
use mathlib.Core.List.{List}
use native.Mathlib.Omega.{arith}
use lib.Dec.{eqb, leb}
use lib.ListN.{drop}
use borrow.Author.Tests.{eqb-false, leb-true}
use Rattle.pgm_header.specs.Header.{most_digits, gap_length, digit_count, decimal_value, white_at, finished_number, number_at, header_at}
use Rattle.std.specs.Prelude.{Option, Some, None}
use Rattle.pgm_header.specs.declared.Number.{Number}
use Rattle.pgm_header.specs.declared.Header.{Header}
use Rattle.pgm_header.proofs.Parts.{found_number, found_header, number_parts, header_parts, part_at, last_white_at, maximum_at, height_at, in_parts}

-- a choice that does not come out as the other one passed its test
chosen : {A : Type 0} (t : Bool) (one other : A) {answer : A} → (other ≡ answer → ⊥) → cond t one other ≡ answer → (t ≡ true) × (one ≡ answer)
chosen true one other differs e = (refl, e)
chosen false one other differs e = absurd (differs e)

no_value : (number after : ℕ) → None ≡ found_number number after → ⊥
no_value number after e = let z : ◌≡◌ {A = ℕ} 0 1 = cc in omega arith

finished_found : (value count end : ℕ) (t : Bool) (number after : ℕ) → eqb count 0 ≡ t → cond t None (found_number value end) ≡ found_number number after → (1 ≤ count) × (value ≡ number) × (end ≡ after)
finished_found value count end true number after e f = absurd (no_value number after f)
finished_found value count end false number after e f = let parts = number_parts value end number after f in (omega (arith, eqb-false count 0 e), parts.0, parts.1)

-- a gap and a number that were read at a position; the number's digits start at from
pub record PartFound (file : List ℕ) (at number after : ℕ) : Type 0 where
  pub from : ℕ
  pub white : white_at file at ≡ true
  pub place : from ≡ at + gap_length false (drop at file)
  pub some : 1 ≤ digit_count (drop from file)
  pub few : digit_count (drop from file) ≤ most_digits
  pub value : decimal_value 0 (drop from file) ≡ number
  pub end : from + digit_count (drop from file) ≡ after

pub part_found : (file : List ℕ) (at number after : ℕ) → part_at file at ≡ found_number number after → PartFound file at number after
unfolding part_at number_at
part_found file at number after e =
    let g : ℕ = gap_length false (drop at file) in
    let t : List ℕ = drop (at + g) file in
    let k : ℕ = digit_count t in
    let p = chosen (white_at file at) (number_at file (at + g)) None (no_value number after) e in
    let n = chosen (leb k most_digits) (finished_number (decimal_value 0 t) k (at + g + k)) None (no_value number after) p.1 in
    let f = finished_found (decimal_value 0 t) k (at + g + k) (eqb k 0) number after refl n.1 in
    record {
      from = at + g;
      white = p.0;
      place = refl;
      some = f.0;
      few = leb-true k most_digits n.0;
      value = f.1;
      end = f.2;
    }

-- a whole header has three numbers and a white byte after them
pub record HeaderRead (file : List ℕ) (at width height maximum start : ℕ) : Type 0 where
  pub height_from : ℕ
  pub maximum_from : ℕ
  pub end : ℕ
  pub width_read : part_at file at ≡ found_number width height_from
  pub height_read : part_at file height_from ≡ found_number height maximum_from
  pub maximum_read : part_at file maximum_from ≡ found_number maximum end
  pub last_read : white_at file end ≡ true
  pub start_read : start ≡ end + 1

module _ (width height maximum start : ℕ) where
  broken_differs : None ≡ found_header width height maximum start → ⊥
  broken_differs e = let z : ◌≡◌ {A = ℕ} 0 1 = cc in omega arith

  -- a header that breaks without a number, and is whole, has the number
  unbroken : (then : Option Number → Option Header) → then None ≡ None → (p : Option Number) → then p ≡ found_header width height maximum start → (x : ℕ) × (after : ℕ) × (p ≡ found_number x after)
  unbroken then b (Some n) e = (n.value, n.end, refl)
  unbroken then b None e = absurd (broken_differs (sym b ∙ e))

  pub header_read : (file : List ℕ) (at : ℕ) → header_at file at ≡ found_header width height maximum start → HeaderRead file at width height maximum start
  unfolding height_at maximum_at last_white_at
  header_read file at e =
      let e₀ = rw (in_parts file at) at e in
      let w = unbroken (height_at file) refl (part_at file at) e₀ in
      let e₁ = rw w.2 at e₀ in
      let h = unbroken (maximum_at file w.0) refl (part_at file w.1) e₁ in
      let e₂ = rw h.2 at e₁ in
      let m = unbroken (last_white_at file w.0 h.0) refl (part_at file h.1) e₂ in
      let l = chosen (white_at file m.1) (found_header w.0 h.0 m.0 (m.1 + 1)) None broken_differs (rw m.2 at e₂) in
      let parts = header_parts w.0 h.0 m.0 (m.1 + 1) width height maximum start l.1 in
      record {
        height_from = w.1;
        maximum_from = h.1;
        end = m.1;
        width_read = subst (λ v. part_at file at ≡ found_number v w.1) parts.0 w.2;
        height_read = subst (λ v. part_at file w.1 ≡ found_number v h.1) parts.1 h.2;
        maximum_read = subst (λ v. part_at file h.1 ≡ found_number v m.1) parts.2 m.2;
        last_read = l.0;
        start_read = sym parts.3;
      }

pub part_after : (file : List ℕ) (at number after : ℕ) → part_at file at ≡ found_number number after → at ≤ after
part_after file at number after e = let p = part_found file at number after e in omega (arith, p.place, p.end)

-- the raster starts after the header does
pub header_after : (file : List ℕ) (at width height maximum start : ℕ) → header_at file at ≡ found_header width height maximum start → at < start
header_after file at width height maximum start e =
    let h = header_read width height maximum start file at e in
    omega (
      arith,
      part_after file at width h.height_from h.width_read,
      part_after file h.height_from height h.maximum_from h.height_read,
      part_after file h.maximum_from maximum h.end h.maximum_read,
      h.start_read,
    )
