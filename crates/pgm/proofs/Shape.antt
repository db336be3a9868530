-- A picture is accepted at a position exactly if a page stands there. `page_stands` gives the page of an accepted picture; `page_read`
-- gives the answer where a page stands. Assumes nothing.
use Rattle.pgm_header.proofs.Parts.{found_header}
use Prim.Native.Nat.{ℕ, ◌+◌, ◌*◌, ◌-◌, ◌≤◌, ◌<◌}
use mathlib.Core.Path.{◌≡◌, refl, sym, ◌∙◌, ap}
use mathlib.Core.Bool.{true, ◌&&◌}
use mathlib.Core.List.{List, [], ◌∷◌, ◌++◌, append_assoc}
use native.Mathlib.Omega.{arith}
use lib.Dec.{leb, eqb}
use lib.ListN.{length, get_or, take, drop, length-drop, length-append, take-append-drop}
use lib.Seq.{drop-drop, take_at}
use borrow.Author.Tests.{le-leb, leb-true, eqb-true}
use Rattle.causes.proofs.Laws.{both_true, bounded, some_pixel}
use Rattle.pgm_header.specs.Header.{sign, starts_with_sign, white_at, header_at}
use Rattle.pgm_header.proofs.Scan.{whole_header}
use Rattle.pgm_header.proofs.Whole.{header_read, header_after}
use Rattle.pgm_read.specs.Read.{found_picture, judged, picture_at}
use Rattle.pgm_read.proofs.Judging.{Accepted, accepted, signed, judged_picture}
use Rattle.pgm.specs.Page.{Page}
use Rattle.pgm.proofs.Parts.{part_stands, white_here, drop_past, white_stands, part_read, white_stops, gap_stops}

-- the sign and what follows it
pub after_sign : (file : List ℕ) → starts_with_sign file ≡ true → file ≡ sign ++ drop 2 file
after_sign file e =
    let t = both_true (leb 2 (length file)) (eqb (get_or file 0 0) 80 && eqb (get_or file 1 0) 53) e in
    let b = both_true (eqb (get_or file 0 0) 80) (eqb (get_or file 1 0) 53) t.1 in
    go file (leb-true 2 (length file) t.0) (eqb-true (get_or file 0 0) 80 b.0) (eqb-true (get_or file 1 0) 53 b.1)
  where
    go : (s : List ℕ) → 2 ≤ length s → get_or s 0 0 ≡ 80 → get_or s 1 0 ≡ 53 → s ≡ sign ++ drop 2 s
    go [] h a b = absurd (omega arith)
    go (x ∷ []) h a b = absurd (omega arith)
    go (x ∷ y ∷ s) h a b = rw (a, b)

pub sign_first : (s : List ℕ) → starts_with_sign (sign ++ s) ≡ true
sign_first s = simp (le-leb 2 (length (sign ++ s)) (omega arith))

-- how many bytes stand from a position on
pub bytes_from : (file : List ℕ) (at : ℕ) (front rest : List ℕ) → drop at file ≡ front ++ rest → length file - at ≡ length front + length rest
bytes_from file at front rest e = sym (length-drop at file) ∙ ap length e ∙ length-append front rest

-- a page's bytes, and what follows the page, grouped from the right
regroup : (g₁ d₁ g₂ d₂ g₃ d₃ : List ℕ) (last : ℕ) (raster rest : List ℕ) → (sign ++ g₁ ++ d₁ ++ g₂ ++ d₂ ++ g₃ ++ d₃ ++ last ∷ raster) ++ rest ≡ sign ++ (g₁ ++ (d₁ ++ (g₂ ++ (d₂ ++ (g₃ ++ (d₃ ++ last ∷ (raster ++ rest)))))))
regroup g₁ d₁ g₂ d₂ g₃ d₃ last raster rest = simp append_assoc

-- a page stands at a position of a file, and rest follows it
pub record PageAt (file : List ℕ) (at width height maximum start : ℕ) : Type 0 where
  pub page : List ℕ
  pub own : ℕ
  pub stands : drop at file ≡ page ++ drop (start + width * height) file
  pub page_right : Page page width height maximum own (take (width * height) (drop start file))
  pub start_right : start ≡ at + own

module _ (file : List ℕ) (at width height maximum start : ℕ) (e : picture_at file at ≡ found_picture width height maximum start) where
  pub page_stands : PageAt file at width height maximum start
  page_stands =
      let s = accepted file at width height maximum start e in
      let a = s.1 in
      let h = header_read width height maximum start file (at + 2) a.header in
      let w = part_stands file (at + 2) width h.height_from h.width_read in
      let v = part_stands file h.height_from height h.maximum_from h.height_read in
      let m = part_stands file h.maximum_from maximum h.end h.maximum_read in
      let l = white_here file h.end h.last_read in
      let n : ℕ = width * height in
      let last : ℕ = get_or file h.end 0 in
      let raster : List ℕ = take n (drop start file) in
      let rest : List ℕ = drop (start + n) file in
      let page : List ℕ = sign ++ w.gap ++ w.digits ++ v.gap ++ v.digits ++ m.gap ++ m.digits ++ last ∷ raster in
      let split : drop start file ≡ raster ++ rest = sym (take-append-drop n (drop start file)) ∙ ap (λ (l : List ℕ). raster ++ l) (drop-drop n start file) in
      let signs : drop at file ≡ sign ++ drop (at + 2) file = after_sign (drop at file) s.0 ∙ ap (λ (l : List ℕ). sign ++ l) (drop-drop 2 at file) in
      let stands : drop at file ≡ page ++ rest =
      cc (signs, w.layout, v.layout, m.layout, l.1, split, h.start_read)
      ∙ sym (regroup w.gap w.digits v.gap v.digits m.gap m.digits last raster rest) in
      let before : at + 2 < start = header_after file (at + 2) width height maximum start a.header in
      let total = bytes_from file at page rest stands in
      let after = bytes_from file start raster rest split in
      let left : length rest ≡ length file - (start + n) = length-drop (start + n) file in
      let size : length raster ≡ n = omega (arith, after, left, a.length_right) in
      record {
        page = page;
        own = start - at;
        stands = stands;
        page_right = record {
          gap₁ = w.gap;
          digits₁ = w.digits;
          gap₂ = v.gap;
          digits₂ = v.digits;
          gap₃ = m.gap;
          digits₃ = m.digits;
          last = last;
          layout = refl;
          gap₁_right = w.gap_right;
          width_right = w.number_right;
          gap₂_right = v.gap_right;
          height_right = v.number_right;
          gap₃_right = m.gap_right;
          maximum_right = m.number_right;
          last_white = l.0;
          start_right = omega (arith, total, size, left, a.length_right, before);
          sides_within = a.sides_right;
          maximum_within = a.maximum_right;
          raster_length = size;
          samples_within = a.samples_right;
        };
        start_right = omega (arith, before);
      }

-- what passes every test is answered as a picture
picture_accepted : (file : List ℕ) (at : ℕ) {width height maximum start : ℕ} → starts_with_sign (drop at file) ≡ true → Accepted file (header_at file (at + 2)) width height maximum start → picture_at file at ≡ found_picture width height maximum start
picture_accepted file at {width} {height} {maximum} {start} s a =
    sym (signed file at s)
    ∙ ap (judged file) a.header
    ∙ sym (judged_picture file width height maximum start a.maximum_right a.sides_right (le-leb (width * height) (length file - start) (omega (arith, a.length_right))) a.samples_right)

-- and so the picture of a page that stands at a position is accepted, with the values of the page
module _ (file : List ℕ) (at : ℕ) {page raster : List ℕ} {width height maximum own : ℕ} (p : Page page width height maximum own raster) (rest : List ℕ) (stands : drop at file ≡ page ++ rest) where
  pub page_read : (picture_at file at ≡ found_picture width height maximum (at + own)) × (take (width * height) (drop (at + own) file) ≡ raster)
  page_read =
      let s₃ : List ℕ = p.last ∷ (raster ++ rest) in
      let s₂ : List ℕ = p.gap₃ ++ (p.digits₃ ++ s₃) in
      let s₁ : List ℕ = p.gap₂ ++ (p.digits₂ ++ s₂) in
      let s₀ : List ℕ = p.gap₁ ++ (p.digits₁ ++ s₁) in
      let l : drop at file ≡ sign ++ s₀ =
      stands
      ∙ ap (λ (l : List ℕ). l ++ rest) p.layout
      ∙ regroup p.gap₁ p.digits₁ p.gap₂ p.digits₂ p.gap₃ p.digits₃ p.last raster rest in
      let after : drop (at + 2) file ≡ s₀ = drop_past file at sign s₀ l in
      let w = part_read width p.digits₁ s₁ p.width_right (gap_stops p.gap₂_right (p.digits₂ ++ s₂)) file (at + 2) p.gap₁_right after in
      let h = part_read height p.digits₂ s₂ p.height_right (gap_stops p.gap₃_right (p.digits₃ ++ s₃)) file w.after p.gap₂_right w.stands in
      let m = part_read maximum p.digits₃ s₃ p.maximum_right (white_stops p.last (raster ++ rest) p.last_white) file h.after p.gap₃_right h.stands in
      let n : ℕ = width * height in
      let start : ℕ = at + own in
      let some : 1 ≤ n = some_pixel (bounded width height p.sides_within) in
      let here = bytes_from file at page rest stands in
      let there = bytes_from file m.after (p.last ∷ raster) rest m.stands in
      let place : m.after + 1 ≡ start = omega (arith, some, here, there, p.start_right, p.raster_length) in
      let last : white_at file m.after ≡ true = white_stands file m.after p.last (raster ++ rest) m.stands p.last_white in
      let follows : drop start file ≡ raster ++ rest = ap (λ (i : ℕ). drop i file) (sym place) ∙ drop_past file m.after (p.last ∷ []) (raster ++ rest) m.stands in
      let raster_is : take n (drop start file) ≡ raster = rw follows (take_at raster rest n p.raster_length) in (
        picture_accepted file at (ap starts_with_sign l ∙ sign_first s₀) (record {
          header =
              sym (whole_header file (at + 2) width w.after w.read height h.after h.read maximum m.after m.read last)
              ∙ ap (λ (s : ℕ). found_header width height maximum s) place;
          maximum_right = p.maximum_within;
          sides_right = p.sides_within;
          length_right = omega (arith, some, here, p.start_right, p.raster_length);
          samples_right = rw raster_is p.samples_within;
        }),
        raster_is,
      )
