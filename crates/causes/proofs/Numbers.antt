-- Different causes have different numbers, from 1 on and of 32 bits: a number gives its cause back. Assumes nothing.
use Prim.Native.Nat.{ℕ, ◌-◌, ◌^◌, ◌<◌}
use mathlib.Core.Path.{◌≡◌, refl, sym, ap, ◌∙◌}
use mathlib.Core.List.{List, [], ◌∷◌}
use native.Mathlib.Omega.{arith}
use lib.ListN.{get_or}
use Rattle.causes.specs.Causes.{number_of}
use Rattle.causes.specs.declared.Cause.{Cause}
use Rattle.causes.specs.declared.Cause.TheVariants.{Sides, PictureLength, Attribute, Steps, Workspace, Output, Buffer, Sign, Header, Maximum, RasterLength, Sample, StepsFile, TooLarge, NotRead, View, Neighbours, PictureNumber, Gap}

-- the causes in the order of their numbers, from 1
abbrev in_order : List Cause
in_order =
    Sides ∷ PictureLength ∷ Attribute ∷ Steps ∷ Workspace ∷ Output ∷ Buffer ∷ Sign ∷ Header ∷ Maximum ∷ RasterLength ∷ Sample ∷ StepsFile ∷ TooLarge ∷ NotRead ∷ View ∷ Neighbours ∷ PictureNumber ∷ Gap ∷ []

abbrev cause_of : ℕ → Cause
cause_of number = get_or in_order (number - 1) Sides

cause_back : (c : Cause) → cause_of (number_of c) ≡ c
cause_back Sides = refl
cause_back PictureLength = refl
cause_back Attribute = refl
cause_back Steps = refl
cause_back Workspace = refl
cause_back Output = refl
cause_back Buffer = refl
cause_back Sign = refl
cause_back Header = refl
cause_back Maximum = refl
cause_back RasterLength = refl
cause_back Sample = refl
cause_back StepsFile = refl
cause_back TooLarge = refl
cause_back NotRead = refl
cause_back View = refl
cause_back Neighbours = refl
cause_back PictureNumber = refl
cause_back Gap = refl

pub number_determined : (c d : Cause) → number_of c ≡ number_of d → c ≡ d
number_determined c d e = sym (cause_back c) ∙ ap cause_of e ∙ cause_back d

-- the numbers are from 1 on and have 32 bits
number_between : (c : Cause) → (0 < number_of c) × (number_of c < 2 ^ 32)
number_between Sides = (omega arith, omega arith)
number_between PictureLength = (omega arith, omega arith)
number_between Attribute = (omega arith, omega arith)
number_between Steps = (omega arith, omega arith)
number_between Workspace = (omega arith, omega arith)
number_between Output = (omega arith, omega arith)
number_between Buffer = (omega arith, omega arith)
number_between Sign = (omega arith, omega arith)
number_between Header = (omega arith, omega arith)
number_between Maximum = (omega arith, omega arith)
number_between RasterLength = (omega arith, omega arith)
number_between Sample = (omega arith, omega arith)
number_between StepsFile = (omega arith, omega arith)
number_between TooLarge = (omega arith, omega arith)
number_between NotRead = (omega arith, omega arith)
number_between View = (omega arith, omega arith)
number_between Neighbours = (omega arith, omega arith)
number_between PictureNumber = (omega arith, omega arith)
number_between Gap = (omega arith, omega arith)

-- no cause has the number 0, which an answer without a cause has
pub number_positive : (c : Cause) → 0 < number_of c
number_positive c = (number_between c).0

pub number_fits : (c : Cause) → number_of c < 2 ^ 32
number_fits c = (number_between c).1
