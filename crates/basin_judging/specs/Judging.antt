-- What the program does with its two files, in its order: "Program: 15, 14 (bytes), the reader's, 14 (n), 13, 3, 4."
use Rattle.std.specs.Prelude.{ℕ, cond, List, [], ◌∷◌, ltb, Option, Some, None, Result, Ok, Err}
use Rattle.grid.specs.Pixels.{pixels, grid_of}
use Rattle.grid.specs.declared.Grid.{Grid}
use Rattle.causes.specs.Causes.{number_of}
use Rattle.causes.specs.declared.Cause.{Cause}
use Rattle.causes.specs.declared.Cause.TheVariants.{TooLarge, NotRead}
use Rattle.pgm_read.specs.Read.{read_answer}
use Rattle.pgm_read.specs.declared.Picture.{Picture}
use Rattle.steps.specs.Answer.{parse_answer, steps_after}
use Rattle.steps.specs.declared.Parsed.{Parsed}
use Rattle.basin_judging.specs.declared.Lengths.{Lengths}
use Rattle.basin_judging.specs.declared.Job.{Job}

-- "a file above 4,096 bytes, or n above 2,048"
abbrev pub longest_file : ℕ
longest_file = 4096

abbrev pub most_sized : ℕ
most_sized = 2048

-- how many bytes each file has
abbrev pub both_lengths : ℕ → ℕ → Result Lengths Cause
both_lengths p s = Ok (record { picture = p; list = s })

-- "a file not opened or read", then "a file above 4,096 bytes"
abbrev pub both_read : Option ℕ → Option ℕ → Result Lengths Cause
both_read None list = Err NotRead
both_read (Some p) None = Err NotRead
both_read (Some p) (Some s) =
    cond (ltb longest_file p) (Err TooLarge) (cond (ltb longest_file s) (Err TooLarge) (both_lengths p s))

-- "this paper's number and values for each enum case": 0 and how many bytes each file has, or the number of the cause
abbrev pub lengths_numbers : Result Lengths Cause → List ℕ
lengths_numbers (Ok l) = 0 ∷ l.picture ∷ l.list ∷ []
lengths_numbers (Err cause) = number_of cause ∷ []

-- 0, the grid, the attribute, how many steps and the gap, or the number of the cause
abbrev pub job_numbers : Result Job Cause → List ℕ
job_numbers (Ok j) =
    0 ∷ j.grid.width ∷ j.grid.height ∷ j.grid.neighbours ∷ j.attribute ∷ j.count ∷ j.gap ∷ []
job_numbers (Err cause) = number_of cause ∷ []

-- "A gap number [..] named in every map call and 0 in the program"
abbrev pub basin_gap : ℕ
basin_gap = 0

-- what is to be sized
abbrev pub job : Grid → ℕ → ℕ → ℕ → Result Job Cause
job grid attribute count gap = Ok (record { grid = grid; attribute = attribute; count = count; gap = gap })

-- a picture with its grid, by the answer on the steps file
abbrev pub sized_by : Grid → Result Parsed Cause → Result Job Cause
sized_by grid (Ok p) = job grid p.attribute p.count basin_gap
sized_by grid (Err cause) = Err cause

-- "The program stays at 4."
abbrev pub basin_grid : ℕ → ℕ → Grid
basin_grid w h = grid_of w h 4

-- "The program takes the first."
abbrev pub basin_picture : ℕ
basin_picture = 1

-- the reader's causes, then "n above 2,048", then those of the steps file
abbrev pub judged_with : Result Picture Cause → Result Parsed Cause → Result Job Cause
judged_with (Ok p) parsed =
    cond (ltb most_sized (pixels (basin_grid p.width p.height))) (Err TooLarge) (sized_by (basin_grid p.width p.height) parsed)
judged_with (Err cause) parsed = Err cause

unfoldable pub job_of : List ℕ → List ℕ → Result Job Cause
job_of file list = judged_with (read_answer file basin_picture) (parse_answer list)

-- the thresholds: those of the steps file, where it comes to be judged
abbrev pub stored_with : Result Picture Cause → List ℕ → List ℕ → List ℕ
stored_with (Ok p) list lent = cond (ltb most_sized (pixels (basin_grid p.width p.height))) lent (steps_after list lent)
stored_with (Err cause) list lent = lent

unfoldable pub job_steps : List ℕ → List ℕ → List ℕ → List ℕ
job_steps file list lent = stored_with (read_answer file basin_picture) list lent
