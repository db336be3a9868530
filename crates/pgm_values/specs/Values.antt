-- The bounds on the maximum and on the samples of a picture.
use Rattle.std.specs.Prelude.{ℕ, max, Bool, true, ◌&&◌, List, [], ◌∷◌, leb}

-- the largest maximum
abbrev pub largest_maximum : ℕ
largest_maximum = 255

-- "The maximum is 1 to 255."
abbrev pub maximum_fits : ℕ → Bool
maximum_fits maximum = leb 1 maximum && leb maximum largest_maximum

-- the largest sample, 0 where there is none
unfoldable pub largest : List ℕ → ℕ
largest [] = 0
largest (b ∷ s) = max b (largest s)

-- no "sample above the maximum"
unfoldable pub all_at_most : ℕ → List ℕ → Bool
all_at_most maximum [] = true
all_at_most maximum (b ∷ s) = leb b maximum && all_at_most maximum s
