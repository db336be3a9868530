-- A file as a sequence of pages, "several pictures end to end, as the Netpbm page allows".
use Rattle.std.specs.Prelude.{Ok, Err}
use Rattle.std.specs.Prelude.{ℕ, suc, ◌+◌, ◌≤◌, ◌≡◌, List, [], ◌++◌, ◌⊎◌, length, take}
use Rattle.causes.specs.declared.Cause.{Cause}
use Rattle.pgm_read.specs.Read.{picture_at}
use Rattle.pgm_write.specs.Write.{write_answer, buffer_after}
use Rattle.pgm.specs.Page.{Page}

-- so many pages, end to end
pub data Pages : ℕ → List ℕ → Type 0 where
  none : Pages 0 []
  then :
      {page rest raster : List ℕ} {count width height maximum start : ℕ}
      → Page page width height maximum start raster
      → Pages count rest
      → Pages (suc count) (page ++ rest)

-- the page that has a number in a file, "from 1 up": there are pages before it, one fewer than the number, and pages after it
pub record Numbered (file : List ℕ) (number width height maximum start : ℕ) (raster : List ℕ) : Type 0 where
  pub before : List ℕ
  pub page : List ℕ
  pub after : List ℕ
  pub earlier : ℕ
  pub later : ℕ
  pub own : ℕ
  pub layout : file ≡ before ++ page ++ after
  pub before_right : Pages earlier before
  pub page_right : Page page width height maximum own raster
  pub after_right : Pages later after
  pub number_right : number ≡ earlier + 1
  pub start_right : start ≡ length before + own

-- "the first faulty picture": there are pages before it, and it starts where they end; in an empty file, at its start
pub record FirstFaulty (file : List ℕ) (cause : Cause) : Type 0 where
  pub before : List ℕ
  pub rest : List ℕ
  pub earlier : ℕ
  pub layout : file ≡ before ++ rest
  pub before_right : Pages earlier before
  pub more : (earlier ≡ 0) ⊎ (1 ≤ length rest)
  pub faulty : picture_at file (length before) ≡ Err cause

-- "the sequence written": the bytes of so many accepted calls of the writer, one after the other
pub data WrittenInTurn : ℕ → List ℕ → Type 0 where
  none : WrittenInTurn 0 []
  then :
      (picture : List ℕ) (width height maximum : ℕ) (buffer : List ℕ) (total : ℕ) {count : ℕ} {rest : List ℕ}
      → write_answer picture width height maximum (length buffer) ≡ Ok total
      → WrittenInTurn count rest
      → WrittenInTurn (suc count) (take total (buffer_after picture width height maximum buffer) ++ rest)
