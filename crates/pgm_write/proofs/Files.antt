-- The written file: how long it is, and how it is stored field by field.
use Prim.Native.Nat.{ℕ, ◌+◌, ◌≤◌}
use mathlib.Core.Path.{◌≡◌, refl, sym, ◌∙◌, ap}
use mathlib.Core.List.{List, ◌∷◌, ◌++◌}
use native.Mathlib.Numerals.{add-one}
use native.Mathlib.Nat.{zero-add}
use native.Mathlib.Omega.{arith}
use lib.ListN.{length, set, drop, length-append}
use lib.Seq.{sets, sets-eq}
use Rattle.pgm_header.specs.Header.{sign}
use Rattle.pgm_write.specs.Write.{digits_of, pgm_file}
use Rattle.pgm_write.proofs.Stores.{sets_append}

pub file_length : (picture : List ℕ) (width height maximum : ℕ) → length (pgm_file picture width height maximum) ≡ length (digits_of width) + length (digits_of height) + length (digits_of maximum) + 6 + length picture
unfolding pgm_file
file_length picture width height maximum = simp length-append (omega arith)

-- the same, from the number of digits of each field
pub file_total : (picture : List ℕ) (width height maximum a : ℕ) → a ≡ length (digits_of width) → (b : ℕ) → b ≡ length (digits_of height) → (c : ℕ) → c ≡ length (digits_of maximum) → a + b + c + 6 + length picture ≡ length (pgm_file picture width height maximum)
file_total picture width height maximum a ea b eb c ec = omega (arith, file_length picture width height maximum)

-- a run is stored from the buffer's start, and a further one right after it
extend : (f x l now next : List ℕ) (i : ℕ) → now ≡ sets l 0 f → i ≡ length f → next ≡ sets now i x → next ≡ sets l 0 (f ++ x)
extend f x l now next i e n h =
    h
    ∙ ap (λ (b : List ℕ). sets b i x) e
    ∙ ap (λ (k : ℕ). sets (sets l 0 f) k x) (n ∙ sym (zero-add (length f)))
    ∙ sym (sets_append f x l 0)

-- what the buffer holds after each field, and the position after it
pub record Stages (picture : List ℕ) (width height maximum : ℕ) (l l₁ l₂ l₃ l₄ : List ℕ) (a b c : ℕ) : Type 0 where
  pub after_width : a ≡ 2 + length (10 ∷ digits_of width)
  pub with_width : l₁ ≡ sets (sets l 0 sign) 2 (10 ∷ digits_of width)
  pub after_height : b ≡ a + length (32 ∷ digits_of height)
  pub with_height : l₂ ≡ sets l₁ a (32 ∷ digits_of height)
  pub after_maximum : c ≡ b + length (10 ∷ digits_of maximum)
  pub with_maximum : l₃ ≡ sets l₂ b (10 ∷ digits_of maximum)
  pub with_raster : l₄ ≡ sets (set l₃ c 10) (c + 1) picture

pub file_stored : {picture : List ℕ} {width height maximum : ℕ} {l l₁ l₂ l₃ l₄ : List ℕ} {a b c : ℕ} → Stages picture width height maximum l l₁ l₂ l₃ l₄ a b c → l₄ ≡ sets l 0 (pgm_file picture width height maximum)
unfolding pgm_file
file_stored {picture} {width} {height} {maximum} {l} {l₁} {l₂} {l₃} {l₄} {a} {b} {c} s =
    let w : List ℕ = sign ++ 10 ∷ digits_of width in
    let h : List ℕ = w ++ 32 ∷ digits_of height in
    let m : List ℕ = h ++ 10 ∷ digits_of maximum in
    let nw : a ≡ length w = s.after_width ∙ sym (length-append sign (10 ∷ digits_of width)) in
    let nh : b ≡ length h = s.after_height ∙ ap (λ (k : ℕ). k + length (32 ∷ digits_of height)) nw ∙ sym (length-append w (32 ∷ digits_of height)) in
    let nm : c ≡ length m = s.after_maximum ∙ ap (λ (k : ℕ). k + length (10 ∷ digits_of maximum)) nh ∙ sym (length-append h (10 ∷ digits_of maximum)) in
    let ew : l₁ ≡ sets l 0 w = extend sign (10 ∷ digits_of width) l (sets l 0 sign) l₁ 2 refl refl s.with_width in
    let eh : l₂ ≡ sets l 0 h = extend w (32 ∷ digits_of height) l l₁ l₂ a ew nw s.with_height in
    let em : l₃ ≡ sets l 0 m = extend h (10 ∷ digits_of maximum) l l₂ l₃ b eh nh s.with_maximum in
    extend m (10 ∷ picture) l l₃ l₄ c em nm (s.with_raster ∙ rw (add-one c))

-- the buffer's first bytes are the file, and the others stay
pub file_first : (file buffer : List ℕ) → length file ≤ length buffer → sets buffer 0 file ≡ file ++ drop (length file) buffer
file_first file buffer h = sets-eq file buffer 0 (omega arith) ∙ rw (zero-add (length file))
