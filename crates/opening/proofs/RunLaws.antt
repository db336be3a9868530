-- The joined totals are those of the runs: at the last place of each run its total, 0 elsewhere. So the largest of them and its place are
-- by runs, and are all that can be. A total is a difference of two greys.
use Prim.Native.Nat.{ℕ, zero, suc, ◌+◌, ◌-◌, ◌≤◌, ◌<◌}
use mathlib.Core.Bool.{true, false}
use mathlib.Core.List.{List, [], ◌∷◌}
use mathlib.Core.Logic.{◌⊎◌, inl, inr, ⊎_elim}
use mathlib.Core.Path.{◌≡◌, refl, sym, ◌∙◌}
use native.Mathlib.Nat.{suc-sub-suc, sub-zero}
use native.Mathlib.Omega.{arith}
use lib.ListN.{length, get_or, take, drop}
use Rattle.sets.proofs.Tests.{le_or_lt}
use Rattle.opening.specs.Residue.{falls_from, total, soon, joined, largest, largest_place}
use Rattle.opening.specs.Runs.{Apart, Run, run_total, ByRuns}
use Rattle.opening.proofs.Joined.{soon_found, soon_not, joined_cases}
use Rattle.opening.proofs.Residue.{Falling, largest_bound, largest_place_zero, largest_place_attains, largest_place_last}
use Rattle.opening.proofs.Runs.{First, run_shift, run_extend, run_single, run_once}

-- of no residues the total is 0
total_none : (n : ℕ) → total (take n []) ≡ 0
unfolding total
total_none zero = refl
total_none (suc n) = refl

-- null residues in front do not count
total_skip : (a n : ℕ) (rs : List ℕ) → a ≤ n → First rs a → total (take n rs) ≡ total (take (n - a) (drop a rs))
unfolding total
total_skip zero n rs l null = rw (sub-zero n)
total_skip (suc a) zero rs l null = absurd (omega arith)
total_skip (suc a) (suc n) [] l null = sym (total_none (suc n - suc a))
total_skip (suc a) (suc n) (r ∷ rest) l null =
    rw
    (suc-sub-suc n a)
    (omega (arith, null 0 (omega arith), total_skip a n rest (omega arith) (λ i b. null (suc i) (omega arith))))

-- the total of a run behind one more residue
total_shift : (r : ℕ) (rest : List ℕ) (a b : ℕ) → run_total (r ∷ rest) (suc a) (suc b) ≡ run_total rest a b
total_shift r rest a b = rw (suc-sub-suc (suc b) a)

-- the total of a run with the residue in front of it
total_extend : (r : ℕ) (rest : List ℕ) (a b : ℕ) → a ≤ b → First rest a → run_total (r ∷ rest) 0 (suc b) ≡ r + run_total rest a b
unfolding total
total_extend r rest a b l null = rw (sub-zero (suc (suc b))) (omega (arith, total_skip a (suc b) rest (omega arith) null))

-- what is joined at b is the total of a run that ends there; with what is carried, if the run is the first
abbrev Joined : ℕ → ℕ → List ℕ → ℕ → ℕ → Type 0
Joined gap carried rs b v =
    (a : ℕ) × Run gap rs a b
    × ((First rs a × (v ≡ run_total rs a b + carried)) ⊎ (((i : ℕ) × (i < a) × (0 < get_or rs i 0)) × (v ≡ run_total rs a b)))

-- all are null before the next place too
first_shift : (r : ℕ) (rest : List ℕ) (a : ℕ) → r ≡ 0 → First rest a → First (r ∷ rest) (suc a)
first_shift r rest a z null zero l = z
first_shift r rest a z null (suc i) l = null i (omega arith)

module _ (gap carried r : ℕ) (rest : List ℕ) (b v : ℕ) where
  -- a null residue in front changes nothing
  null_joined : r ≡ 0 → Joined gap carried rest b v → Joined gap carried (r ∷ rest) (suc b) v
  null_joined z (a, run, which) = (
    suc a,
    run_shift gap r rest a b (λ pos. absurd (omega arith)) run,
    ⊎_elim
        (λ (null, e). inl (first_shift r rest a z null, omega (arith, total_shift r rest a b)))
        (λ ((i, l, some), e). inr ((suc i, omega arith, some), omega (arith, total_shift r rest a b)))
        which,
  )

  -- one that is not null and has another soon behind it goes on into the first run
  soon_joined : 0 < r → soon gap rest ≡ true → Joined gap (carried + r) rest b v → Joined gap carried (r ∷ rest) (suc b) v
  soon_joined pos near (a, run, inl (null, e)) =
      let (j, l, some) = soon_found gap rest near in
      let close : a < gap = ⊎_elim (λ (m : a ≤ j). omega arith) (λ (m : j < a). absurd (omega (arith, null j m))) (le_or_lt a j) in (
        0,
        run_extend gap r rest a b pos close run,
        inl (λ i m. absurd (omega arith), omega (arith, total_extend r rest a b run.order null)),
      )
  soon_joined pos near (a, run, inr ((i, l, some), e)) = (
    suc a,
    run_shift gap r rest a b (λ p. omega (arith, run.before i l some)) run,
    inr ((0, omega arith, pos), omega (arith, total_shift r rest a b)),
  )

  -- one that has none soon behind it ends its run, and the next run carries nothing
  far_joined : 0 < r → soon gap rest ≡ false → Joined gap 0 rest b v → Joined gap carried (r ∷ rest) (suc b) v
  far_joined pos far (a, run, which) = (
    suc a,
    run_shift gap r rest a b (λ p. soon_not gap rest far a run.first) run,
    inr ((0, omega arith, pos), ⊎_elim (λ (null, e). omega (arith, total_shift r rest a b)) (λ (some, e). e ∙ sym (total_shift r rest a b)) which),
  )

-- there its run has what was carried
end_joined : (gap carried r : ℕ) (rest : List ℕ) → 0 < r → soon gap rest ≡ false → Joined gap carried (r ∷ rest) 0 (carried + r)
unfolding total
end_joined gap carried r rest pos far =
    (0, run_single gap r rest pos (soon_not gap rest far), inl (λ i l. absurd (omega arith), omega arith))

-- what is joined, with what is carried
joined_carried : (gap carried : ℕ) (rs : List ℕ) (b : ℕ) → 0 < get_or (joined gap carried rs) b 0
    → Joined gap carried rs b (get_or (joined gap carried rs) b 0)
unfolding joined
joined_carried gap carried [] b some = absurd (omega arith)
joined_carried gap carried (r ∷ rest) zero some =
    joined_cases gap carried r rest
    (λ (l : List ℕ). 0 < get_or l 0 0 → Joined gap carried (r ∷ rest) 0 (get_or l 0 0))
    (λ z p. absurd (omega arith))
    (λ pos near p. absurd (omega arith))
    (λ pos far p. end_joined gap carried r rest pos far)
    some
joined_carried gap carried (r ∷ rest) (suc b) some =
    joined_cases gap carried r rest
    (λ (l : List ℕ). 0 < get_or l (suc b) 0 → Joined gap carried (r ∷ rest) (suc b) (get_or l (suc b) 0))
    (λ z p. null_joined gap carried r rest b _ z (joined_carried gap carried rest b p))
    (λ pos near p. soon_joined gap carried r rest b _ pos near (joined_carried gap (carried + r) rest b p))
    (λ pos far p. far_joined gap carried r rest b _ pos far (joined_carried gap 0 rest b p))
    some

-- what is joined at a place is the total of a run that ends there
pub joined_run : (gap : ℕ) (rs : List ℕ) (b : ℕ) → 0 < get_or (joined gap 0 rs) b 0
    → (a : ℕ) × Run gap rs a b × (get_or (joined gap 0 rs) b 0 ≡ run_total rs a b)
joined_run gap rs b some =
    let (a, run, which) = joined_carried gap 0 rs b some in
    (a, run, ⊎_elim (λ (null, e). omega arith) (λ (early, e). e) which)

-- where a residue that is not null has none near behind it something is joined
ends_joined : (gap carried : ℕ) (rs : List ℕ) (b : ℕ) → 0 < get_or rs b 0 → ((j : ℕ) → b < j → 0 < get_or rs j 0 → Apart gap b j)
    → 0 < get_or (joined gap carried rs) b 0
unfolding joined
ends_joined gap carried [] b some after = absurd (omega arith)
ends_joined gap carried (r ∷ rest) zero some after =
    joined_cases gap carried r rest
    (λ (l : List ℕ). 0 < get_or l 0 0)
    (λ z. absurd (omega arith))
    (λ pos near. let (j, l, p) = soon_found gap rest near in absurd (omega (arith, after (suc j) (omega arith) p)))
    (λ pos far. omega arith)
ends_joined gap carried (r ∷ rest) (suc b) some after =
    let behind : (c : ℕ) → 0 < get_or (joined gap c rest) b 0 =
    λ c. ends_joined gap c rest b some (λ j l p. omega (arith, after (suc j) (omega arith) p)) in
    joined_cases gap carried r rest
    (λ (l : List ℕ). 0 < get_or l (suc b) 0)
    (λ z. behind carried)
    (λ pos near. behind (carried + r))
    (λ pos far. behind 0)

-- something is joined where a run ends
pub run_ends : (gap carried : ℕ) (rs : List ℕ) (a b : ℕ) → Run gap rs a b → 0 < get_or (joined gap carried rs) b 0
run_ends gap carried rs a b run = ends_joined gap carried rs b run.last run.after

-- at the last place of each run its total is joined
pub run_joined : (gap : ℕ) (rs : List ℕ) (a b : ℕ) → Run gap rs a b → get_or (joined gap 0 rs) b 0 ≡ run_total rs a b
run_joined gap rs a b run =
    let (c, run', e) = joined_run gap rs b (run_ends gap 0 rs a b run) in
    let same : c ≡ a =
    (run_once gap rs c b a b b run' run run'.order (omega arith) run.order (omega arith)).0 in
    rw same at e

-- a place with a value that is not 0 is below the length
pub place_inside : (rs : List ℕ) (i : ℕ) → 0 < get_or rs i 0 → i < length rs
place_inside [] i some = absurd (omega arith)
place_inside (r ∷ rest) zero some = omega arith
place_inside (r ∷ rest) (suc i) some = omega (arith, place_inside rest i some)

-- the largest of what is joined and its place are by runs
pub by_runs : (gap : ℕ) (rs : List ℕ) → ByRuns gap rs (largest (joined gap 0 rs)) (largest_place (joined gap 0 rs))
by_runs gap rs =
    record {
      most = λ a b run. omega (arith, run_joined gap rs a b run, largest_bound (joined gap 0 rs) b);
      attained = λ pos.
          let (b, inside, place, at) = largest_place_attains (joined gap 0 rs) pos in
          let (a, run, e) = joined_run gap rs b (omega arith) in
          (a, b, run, omega arith, place);
      largest = λ a b run e.
          let some : 0 < get_or (joined gap 0 rs) b 0 = run_ends gap 0 rs a b run in
          let at : get_or (joined gap 0 rs) b 0 ≡ largest (joined gap 0 rs) = run_joined gap rs a b run ∙ e in
          largest_place_last (joined gap 0 rs) b (omega arith) (place_inside (joined gap 0 rs) b some) at;
      none = largest_place_zero (joined gap 0 rs);
    }

module _ (gap : ℕ) (rs : List ℕ) (r i r' i' : ℕ) (by : ByRuns gap rs r i) (by' : ByRuns gap rs r' i') where
  -- of two residues by runs neither is larger
  residue_le : r ≤ r'
  residue_le =
      ⊎_elim
      (λ (z : r ≤ 0). omega arith)
      (λ (pos : 0 < r). let (a, b, run, e, at) = by.attained pos in omega (arith, by'.most a b run))
      (le_or_lt r 0)

  -- of two indices by runs neither is larger, if the residues are the same
  index_le : r ≡ r' → i ≤ i'
  index_le same =
      ⊎_elim
      (λ (z : r ≤ 0). omega (arith, by.none (omega arith)))
      (λ (pos : 0 < r). let (a, b, run, e, at) = by.attained pos in omega (arith, by'.largest a b run (e ∙ same)))
      (le_or_lt r 0)

-- what is by runs is determined
pub by_runs_only : (gap : ℕ) (rs : List ℕ) (r i r' i' : ℕ) → ByRuns gap rs r i → ByRuns gap rs r' i' → (r ≡ r') × (i ≡ i')
by_runs_only gap rs r i r' i' by by' =
    let same : r ≡ r' = omega (arith, residue_le gap rs r i r' i' by by', residue_le gap rs r' i' r i by' by) in
    (same, omega (arith, index_le gap rs r i r' i' by by' same, index_le gap rs r' i' r i by' by (sym same)))

-- the total of a run is a difference of two greys, where the greys never rise
pub run_telescopes : (grey : ℕ) (l : List ℕ) → Falling grey l → (a b : ℕ) → a ≤ b → b < length l
    → run_total (falls_from grey l) a b + get_or (grey ∷ l) (suc b) 0 ≡ get_or (grey ∷ l) a 0
unfolding falls_from total
run_telescopes grey [] f a b order inside = absurd (omega arith)
run_telescopes grey (next ∷ rest) f zero zero order inside = omega (arith, f.0)
run_telescopes grey (next ∷ rest) f zero (suc b) order inside =
    rw (sub-zero (suc (suc b))) (omega (arith, f.0, rw (sub-zero (suc b)) at (run_telescopes next rest f.1 0 b (omega arith) (omega arith))))
run_telescopes grey (next ∷ rest) f (suc a) zero order inside = absurd (omega arith)
run_telescopes grey (next ∷ rest) f (suc a) (suc b) order inside =
    rw (suc-sub-suc (suc b) a) (run_telescopes next rest f.1 a b (omega arith) (omega arith))
