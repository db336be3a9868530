-- A file of which only the first bytes are left.
use Rattle.std.specs.Prelude.{Err}
use Rattle.std.specs.Prelude.{ℕ, ◌+◌, ◌*◌, ◌≤◌, ◌<◌, ◌≡◌, cond, List, length, take, ltb}
use Rattle.causes.specs.declared.Cause.{Cause}
use Rattle.causes.specs.declared.Cause.TheVariants.{Sign, Header as BadHeader, RasterLength}
use Rattle.pgm_header.specs.Header.{sign}
use Rattle.pgm_read.specs.Read.{found_picture, read_answer}

-- "8 if less than the sign is left, else 9"
abbrev pub cut_cause : ℕ → Cause
cut_cause left = cond (ltb left (length sign)) Sign BadHeader

-- What a file answers that is cut short in its first picture, whichever picture is then asked for. The first header ends where the first
-- raster starts, its last white byte included
pub record CutShort (file : List ℕ) : Type 0 where
  pub width : ℕ
  pub height : ℕ
  pub maximum : ℕ
  pub end : ℕ
  pub first : read_answer file 1 ≡ found_picture width height maximum end
  -- "cut anywhere within its first header answers 8 if less than the sign is left, else 9"
  pub header_cut : (left : ℕ) → left < end → (number : ℕ) → read_answer (take left file) number ≡ Err (cut_cause left)
  -- "a raster cut short stays 11"
  pub raster_cut : (left : ℕ) → end ≤ left → left < end + width * height → (number : ℕ) → read_answer (take left file) number ≡ Err RasterLength
