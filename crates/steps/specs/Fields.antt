-- What stands on a line after its first word and tab: the attribute's name, or a step's number.
use Rattle.std.specs.Prelude.{ℕ, ◌+◌, ◌*◌, ◌-◌, Bool, true, false, cond, not, ◌&&◌, ◌||◌, List, [], ◌∷◌, length, get_or, leb, eqb}

-- every byte is one of low to high
unfoldable pub all_between : ℕ → ℕ → List ℕ → Bool
all_between low high [] = true
all_between low high (b ∷ s) = leb low b && leb b high && all_between low high s

-- 1 to `longest` bytes, each of low to high
unfoldable pub field : ℕ → ℕ → ℕ → List ℕ → Bool
field longest low high s = leb 1 (length s) && leb (length s) longest && all_between low high s

-- "lower-case word of 1 to 8 letters"
abbrev pub is_word : List ℕ → Bool
is_word s = field 8 97 122 s

-- "without a leading zero (a lone 0 ..)"
abbrev pub no_leading_zero : List ℕ → Bool
no_leading_zero s = eqb (length s) 1 || not (eqb (get_or s 0 0) 48)

-- "a number of 1 to 7 digits without a leading zero"
abbrev pub is_number : List ℕ → Bool
is_number s = field 7 48 57 s && no_leading_zero s

-- the decimal number of digits, after digits of the value v
unfoldable pub value_after : ℕ → List ℕ → ℕ
value_after v [] = v
value_after v (b ∷ s) = value_after (v * 10 + (b - 48)) s

-- whether s starts with the bytes of head
unfoldable pub starts_with : List ℕ → List ℕ → Bool
starts_with [] s = true
starts_with (a ∷ head) [] = false
starts_with (a ∷ head) (b ∷ s) = eqb b a && starts_with head s

abbrev pub same : List ℕ → List ℕ → Bool
same a s = eqb (length s) (length a) && starts_with a s

-- `area`, `height`, `width`
abbrev pub area : List ℕ
area = 97 ∷ 114 ∷ 101 ∷ 97 ∷ []

abbrev pub height : List ℕ
height = 104 ∷ 101 ∷ 105 ∷ 103 ∷ 104 ∷ 116 ∷ []

abbrev pub width : List ℕ
width = 119 ∷ 105 ∷ 100 ∷ 116 ∷ 104 ∷ []

-- "Attributes: 1 area (pixels), 2 height .., 3 width"; 0 for any other word
unfoldable pub attribute_of : List ℕ → ℕ
attribute_of word = cond (same area word) 1 (cond (same height word) 2 (cond (same width word) 3 0))
