-- The lines of a steps file, and the shape that they have.
use Rattle.std.specs.Prelude.{ℕ, suc, ◌-◌, ◌≡◌, Bool, true, false, cond, ◌&&◌, List, [], ◌∷◌, length, get_or, drop, eqb}
use Rattle.steps.specs.Fields.{starts_with, is_word, is_number, value_after}

-- "Each line ends with byte 10.": so the file's last byte is 10, and a file without bytes has no line
unfoldable pub ends_line : List ℕ → Bool
ends_line file = eqb (get_or file (length file - 1) 0) 10

-- one byte more at the front of the first line
abbrev pub longer : ℕ → List (List ℕ) → List (List ℕ)
longer b [] = (b ∷ []) ∷ []
longer b (line ∷ rest) = (b ∷ line) ∷ rest

-- the lines, each without the byte 10 that ends it
unfoldable pub lines : List ℕ → List (List ℕ)
lines [] = []
lines (b ∷ s) = cond (eqb b 10) ([] ∷ lines s) (longer b (lines s))

-- how many bytes the first line of s has
unfoldable pub line_length : List ℕ → ℕ
line_length [] = 0
line_length (b ∷ s) = cond (eqb b 10) 0 (suc (line_length s))

-- `attribute`, tab
abbrev pub attribute_head : List ℕ
attribute_head = 97 ∷ 116 ∷ 116 ∷ 114 ∷ 105 ∷ 98 ∷ 117 ∷ 116 ∷ 101 ∷ 9 ∷ []

-- `step`, tab
abbrev pub step_head : List ℕ
step_head = 115 ∷ 116 ∷ 101 ∷ 112 ∷ 9 ∷ []

-- "the line `attribute`, tab, `area`, `height` or `width` (another lower-case word of 1 to 8 letters ..)"
unfoldable pub attribute_line : List ℕ → Bool
attribute_line line = starts_with attribute_head line && is_word (drop (length attribute_head) line)

-- "lines `step`, tab, a number of 1 to 7 digits without a leading zero"
unfoldable pub step_line : List ℕ → Bool
step_line line = starts_with step_head line && is_number (drop (length step_head) line)

unfoldable pub step_lines : List (List ℕ) → Bool
step_lines [] = true
step_lines (line ∷ rest) = step_line line && step_lines rest

-- the attribute line, "then" the step lines
unfoldable pub shaped : List (List ℕ) → Bool
shaped [] = false
shaped (first ∷ rest) = attribute_line first && step_lines rest

-- a steps file that is not malformed
unfoldable pub well_formed : List ℕ → Bool
well_formed file = ends_line file && shaped (lines file)

-- every line of those is a whole step line
pub record StepLines (rest : List (List ℕ)) : Type 0 where
  pub all_steps : step_lines rest ≡ true

-- the number on a step line
unfoldable pub threshold : List ℕ → ℕ
threshold line = value_after 0 (drop (length step_head) line)

unfoldable pub thresholds : List (List ℕ) → List ℕ
thresholds [] = []
thresholds (line ∷ rest) = threshold line ∷ thresholds rest

-- the word on the attribute line, the file's first
abbrev pub word_on : List (List ℕ) → List ℕ
word_on [] = []
word_on (first ∷ rest) = drop (length attribute_head) first

-- the thresholds on the lines after it
abbrev pub listed : List (List ℕ) → List ℕ
listed [] = []
listed (first ∷ rest) = thresholds rest

-- the parts of a steps file that is not malformed: the word on its first line, and the text of the step lines after it
pub record Parts (file word rest : List ℕ) : Type 0 where
  pub shape : well_formed file ≡ true
  pub word_is : word ≡ word_on (lines file)
  pub steps : StepLines (lines rest)
  pub listed_are : thresholds (lines rest) ≡ listed (lines file)
