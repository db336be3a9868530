-- How the tests of the reader decide on a picture, and what an accepted one gives. Assumes nothing.
use Prim.Native.Nat.{ℕ, ◌+◌, ◌*◌, ◌-◌, ◌≤◌, ◌<◌}
use mathlib.Core.Path.{◌≡◌, refl, ◌∙◌, ap}
use mathlib.Core.Bool.{Bool, true, false}
use mathlib.Core.List.{List}
use native.Mathlib.Omega.{arith}
use lib.Dec.{leb}
use lib.ListN.{length, take, drop}
use borrow.Author.Tests.{leb-true}
use Rattle.causes.specs.declared.Cause.{Cause}
use Rattle.causes.specs.declared.Cause.TheVariants.{Sides, Sign, Header as BadHeader, Maximum, RasterLength, Sample}
use Rattle.causes.specs.Causes.{must}
use Rattle.causes.specs.Sides.{sides_fit}
use Rattle.causes.proofs.Refusing.{must_passed}
use Rattle.causes.proofs.Laws.{bounded, some_pixel}
use Rattle.pgm_values.specs.Values.{maximum_fits, all_at_most}
use Rattle.pgm_header.specs.Header.{starts_with_sign, header_at}
use Rattle.pgm_header.proofs.Whole.{header_after}
use Rattle.pgm_header.specs.declared.Header.{Header}
use Rattle.std.specs.Prelude.{Option, Some, None, Result, Ok, Err}
use Rattle.std.specs.declared.ops.Range.{Range}
use Rattle.pgm_header.proofs.Parts.{found_header}
use Rattle.pgm_read.specs.declared.Picture.{Picture}
use Rattle.pgm_read.specs.Read.{found_picture, judged, picture_at, raster_span}

-- the values of an answer that is a picture are determined
pub picture_parts : (w h m s w' h' m' s' : ℕ) → found_picture w h m s ≡ found_picture w' h' m' s' → (w ≡ w') × (h ≡ h') × (m ≡ m') × (s ≡ s')
picture_parts w h m s w' h' m' s' e =
    let n : ◌≡◌ {A = Picture} (record { width = w; height = h; maximum = m; start = s }) (record { width = w'; height = h'; maximum = m'; start = s' }) = cc e in
    (ap (λ (n : Picture). n.width) n, ap (λ (n : Picture). n.height) n, ap (λ (n : Picture). n.maximum) n, ap (λ (n : Picture). n.start) n)

pub judged_broken : (file : List ℕ) → Err BadHeader ≡ judged file None
unfolding judged
judged_broken file = refl

pub some_pixels : (width height n : ℕ) → sides_fit width height ≡ true → n ≡ width * height → 1 ≤ n
some_pixels width height n fit e = omega (arith, some_pixel (bounded width height fit))

pub ends_within : (total start n : ℕ) → 1 ≤ n → leb n (total - start) ≡ true → start + n ≤ total
ends_within total start n one e = omega (arith, leb-true n (total - start) e)

-- a header whose maximum and sides are right, by its raster
module _ (file : List ℕ) (width height maximum start : ℕ) (a : maximum_fits maximum ≡ true) (b : sides_fit width height ≡ true) where
  pub judged_length : leb (width * height) (length file - start) ≡ false → Err RasterLength ≡ judged file (found_header width height maximum start)
  unfolding judged
  judged_length c = simp (a, b, c)

  pub judged_sample : leb (width * height) (length file - start) ≡ true → all_at_most maximum (take (width * height) (drop start file)) ≡ false → Err Sample ≡ judged file (found_header width height maximum start)
  unfolding judged
  judged_sample c d = simp (a, b, c, d)

  pub judged_picture : leb (width * height) (length file - start) ≡ true → all_at_most maximum (take (width * height) (drop start file)) ≡ true → found_picture width height maximum start ≡ judged file (found_header width height maximum start)
  unfolding judged
  judged_picture c d = simp (a, b, c, d)

module _ (file : List ℕ) (at : ℕ) where
  pub signed : starts_with_sign (drop at file) ≡ true → judged file (header_at file (at + 2)) ≡ picture_at file at
  unfolding picture_at
  signed e = simp e

  pub unsigned : starts_with_sign (drop at file) ≡ false → Err Sign ≡ picture_at file at
  unfolding picture_at
  unsigned e = simp e

-- what a header gives that was judged to be a picture's: it is whole, and its values are right
pub record Accepted (file : List ℕ) (found : Option Header) (width height maximum start : ℕ) : Type 0 where
  pub header : found ≡ found_header width height maximum start
  pub maximum_right : maximum_fits maximum ≡ true
  pub sides_right : sides_fit width height ≡ true
  pub length_right : start + width * height ≤ length file
  pub samples_right : all_at_most maximum (take (width * height) (drop start file)) ≡ true

-- an answer that is a picture has passed every test before it
passed : (t : Bool) (cause : Cause) (answer : Result Picture Cause) (width height maximum start : ℕ) → must Err t cause answer ≡ found_picture width height maximum start → (t ≡ true) × (answer ≡ found_picture width height maximum start)
passed t cause answer width height maximum start e =
    must_passed Err t cause answer (found_picture width height maximum start) (λ f. let z : ◌≡◌ {A = ℕ} 0 1 = cc in omega arith) e

pub judged_accepted : (file : List ℕ) (found : Option Header) (width height maximum start : ℕ) → judged file found ≡ found_picture width height maximum start → Accepted file found width height maximum start
unfolding judged
judged_accepted file None width height maximum start g = let z : ◌≡◌ {A = ℕ} 0 1 = cc in absurd (omega arith)
judged_accepted file (Some n) width height maximum start g =
    let a = passed (maximum_fits n.maximum) Maximum _ width height maximum start g in
    let b = passed (sides_fit n.width n.height) Sides _ width height maximum start a.1 in
    let c = passed (leb (n.width * n.height) (length file - n.start)) RasterLength _ width height maximum start b.1 in
    let d = passed (all_at_most n.maximum (take (n.width * n.height) (drop n.start file))) Sample _ width height maximum start c.1 in
    let v = picture_parts n.width n.height n.maximum n.start width height maximum start d.1 in
    record {
      header = λ i. Some (record { width = v.0 i; height = v.1 i; maximum = v.2 i; start = v.3 i });
      maximum_right = rw v.2 at a.0;
      sides_right = rw (v.0, v.1) at b.0;
      length_right = rw (v.3, v.0, v.1) at (ends_within (length file) n.start (n.width * n.height) (some_pixels n.width n.height (n.width * n.height) b.0 refl) c.0);
      samples_right = rw (v.2, v.3, v.0, v.1) at d.0;
    }

-- an accepted picture has the sign too
pub accepted : (file : List ℕ) (at width height maximum start : ℕ) → picture_at file at ≡ found_picture width height maximum start → (starts_with_sign (drop at file) ≡ true) × Accepted file (header_at file (at + 2)) width height maximum start
unfolding picture_at
accepted file at width height maximum start e =
    let s = passed (starts_with_sign (drop at file)) Sign (judged file (header_at file (at + 2))) width height maximum start e in
    (s.0, judged_accepted file (header_at file (at + 2)) width height maximum start s.1)

-- it ends after it starts
pub goes_on : (file : List ℕ) (at width height maximum start : ℕ) → picture_at file at ≡ found_picture width height maximum start → (at + 2 < start) × (start + width * height ≤ length file)
goes_on file at width height maximum start e =
    let a = (accepted file at width height maximum start e).1 in
    (header_after file (at + 2) width height maximum start a.header, a.length_right)

-- where the raster of a picture lies
pub picture_span : (width height maximum start n : ℕ) (found : Result Picture Cause) → n ≡ width * height → found_picture width height maximum start ≡ found → ◌≡◌ {A = Range ℕ} (record { start = start; end = start + n }) (raster_span found)
picture_span width height maximum start n found pixels e = (λ i. record { start = start; end = start + pixels i }) ∙ ap raster_span e

-- the raster's span lies within the file, and its bytes are the raster
module _ (file : List ℕ) (header : Option Header) where
  within : (found : Result Picture Cause) → judged file header ≡ found → ((raster_span found).start ≤ (raster_span found).end) × ((raster_span found).end ≤ length file)
  within (Ok p) e = (omega arith, (judged_accepted file header p.width p.height p.maximum p.start e).length_right)
  within (Err cause) e = (omega arith, omega arith)

  module _ (span : Range ℕ) (e : span ≡ raster_span (judged file header)) where
    pub span_within : (span.start ≤ span.end) × (span.end ≤ length file)
    span_within = rw e (within (judged file header) refl)
