-- A picture's own bytes as the Netpbm page lists them, numbered as they stand in its list.
use Rattle.std.specs.Prelude.{ℕ, ◌+◌, ◌*◌, ◌≤◌, ◌≡◌, Bool, true, false, List, [], ◌∷◌, ◌++◌, length}
use Rattle.causes.specs.Sides.{sides_fit}
use Rattle.pgm_values.specs.Values.{maximum_fits, all_at_most}
use Rattle.pgm_header.specs.Bytes.{is_white, ends_comment}
use Rattle.pgm_header.specs.Header.{sign, most_digits, digit_count, decimal_value}

-- 2., 4., 6. "goes on over white bytes and comments; a comment runs from # through the next 10 or 13."
-- The rest of a gap. The Bool says whether it stands inside a comment; a gap ends outside.
pub data GapRest : Bool → List ℕ → Type 0 where
  done : GapRest false []
  white : {b : ℕ} {s : List ℕ} → is_white b ≡ true → GapRest false s → GapRest false (b ∷ s)
  comment : {s : List ℕ} → GapRest true s → GapRest false (35 ∷ s)
  remark : {b : ℕ} {s : List ℕ} → ends_comment b ≡ false → GapRest true s → GapRest true (b ∷ s)
  newline : {b : ℕ} {s : List ℕ} → ends_comment b ≡ true → GapRest false s → GapRest true (b ∷ s)

-- "A gap starts with a white byte"
pub data Gap : List ℕ → Type 0 where
  starts : {b : ℕ} {s : List ℕ} → is_white b ≡ true → GapRest false s → Gap (b ∷ s)

-- 3., 5., 7. "A number has 1 to 7 digits, leading zeros allowed." These bytes are nothing but digits, and their decimal value is the number.
pub record Number (digits : List ℕ) (number : ℕ) : Type 0 where
  pub some : 1 ≤ length digits
  pub few : length digits ≤ most_digits
  pub all_digits : digit_count digits ≡ length digits
  pub value : decimal_value 0 digits ≡ number

-- "The file starts with the two bytes "P5". Then a gap, width, gap, height, gap, maximum grey, exactly one white byte, and n raster
-- bytes." The raster starts at a position, no sample of it is above the maximum, and the maximum and the sides are within their bounds.
pub record Page (page : List ℕ) (width height maximum start : ℕ) (raster : List ℕ) : Type 0 where
  pub gap₁ : List ℕ
  pub digits₁ : List ℕ
  pub gap₂ : List ℕ
  pub digits₂ : List ℕ
  pub gap₃ : List ℕ
  pub digits₃ : List ℕ
  pub last : ℕ
  -- 1. the sign, and the others in their order
  pub layout : page ≡ sign ++ gap₁ ++ digits₁ ++ gap₂ ++ digits₂ ++ gap₃ ++ digits₃ ++ last ∷ raster
  -- 2. white
  pub gap₁_right : Gap gap₁
  -- 3. the width
  pub width_right : Number digits₁ width
  -- 4. white
  pub gap₂_right : Gap gap₂
  -- 5. the height
  pub height_right : Number digits₂ height
  -- 6. white
  pub gap₃_right : Gap gap₃
  -- 7. the maximum
  pub maximum_right : Number digits₃ maximum
  -- 8. one white byte
  pub last_white : is_white last ≡ true
  -- 9. the raster, and what the values may be
  pub start_right : start + length raster ≡ length page
  pub sides_within : sides_fit width height ≡ true
  pub maximum_within : maximum_fits maximum ≡ true
  pub raster_length : length raster ≡ width * height
  pub samples_within : all_at_most maximum raster ≡ true
