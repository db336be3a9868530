-- The pairs of the two sides, merged.
use Rattle.std.specs.Prelude.{ℕ, cond}
use Rattle.calls.specs.Combined.{light_wins}
use Rattle.map_passes.specs.Settle.{total_in}

-- the light pair where light wins, else the dark one
abbrev pub merged : ℕ → ℕ → ℕ
merged light dark = cond (light_wins (total_in light) (total_in dark)) light dark
