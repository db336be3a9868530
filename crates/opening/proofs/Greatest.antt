-- The opened grey is "the greatest h" of the scope among all levels, not only among those that the definition searches, and a node goes
-- exactly if it is not kept and not at the least grey. Neither asks anything of the adjacency.
use Prim.Native.Nat.{ℕ, ◌≤◌, ◌<◌}
use mathlib.Core.Bool.{true, false}
use mathlib.Core.Logic.{◌↔◌, inl, inr, ⊎_elim}
use mathlib.Core.Path.{◌≡◌}
use native.Mathlib.Omega.{arith}
use Rattle.sets.specs.Sets.{member}
use Rattle.sets.proofs.Laws.{some_in_elim}
use Rattle.sets.proofs.Tests.{decided, clash, is_false, le_or_lt}
use Rattle.connected.specs.Component.{Adjacency}
use Rattle.opening.specs.Opening.{component_at, least_grey, Keeps, Upward, NeedsPixel, opened_by, Greatest}
use Rattle.opening.specs.Node.{node}
use Rattle.opening.proofs.Components.{level_mono, component_start}
use Rattle.opening.proofs.Levels.{least_grey_le}
use Rattle.opening.proofs.Opened.{opened_ge, opened_above, opened_kept}

module _ (n : ℕ) (adj : Adjacency) (keeps : Keeps) (up : Upward n keeps) (g : ℕ → ℕ) (p : ℕ) where
  -- the component of p at h is kept
  abbrev Passes : ℕ → Type 0
  Passes h = keeps (member (component_at n adj g h p)) ≡ true

  -- no level above the opened grey is kept: at a level above its grey a pixel has no component
  opened_highest : NeedsPixel n keeps → (h : ℕ) → Passes h → h ≤ opened_by n adj keeps g p
  opened_highest some h pass =
      let (q, b, e) = some_in_elim n (member (component_at n adj g h p)) (some _ pass) in
      ⊎_elim
      (λ (low : h ≤ least_grey n g). omega (arith, opened_ge n adj keeps g p))
      (λ (above : least_grey n g < h). opened_above n adj keeps g p h above (component_start n adj g h p q e) pass)
      (le_or_lt h (least_grey n g))

  -- "a pixel's new grey is the greatest h for which its component of the level set at h has attribute t or more; the picture's least
  -- grey if there is none"
  pub opened_greatest : NeedsPixel n keeps → Greatest Passes (least_grey n g) (opened_by n adj keeps g p)
  opened_greatest some =
      ⊎_elim
      (λ (pass : Passes (opened_by n adj keeps g p)). inl (pass, opened_highest some))
      (λ (fails : keeps (member (component_at n adj g (opened_by n adj keeps g p) p)) ≡ false).
      let low : opened_by n adj keeps g p ≤ least_grey n g =
      ⊎_elim
      (λ l. l)
      (λ above. clash _ (opened_kept n adj keeps up g p _ above (omega arith)) fails)
      (le_or_lt (opened_by n adj keeps g p) (least_grey n g)) in
      inr (
        (λ h pass.
            clash
            _
            (up
            (member (component_at n adj g h p))
            (member (component_at n adj g (opened_by n adj keeps g p) p))
            (level_mono n adj g g h _ p (λ q b k. omega (arith, least_grey_le n g q b)))
            pass)
            fails),
        omega (arith, opened_ge n adj keeps g p),
      ))
      (decided (keeps (member (component_at n adj g (opened_by n adj keeps g p) p))))

  -- "a node goes exactly if it is not the root and its attribute is below t": its own pixels lose grey
  pub opened_goes : (opened_by n adj keeps g p < g p) ↔ ((least_grey n g < g p) × (keeps (member (node n adj g p)) ≡ false))
  opened_goes = (
    (λ less. (
      omega (arith, opened_ge n adj keeps g p),
      is_false
          (keeps (member (node n adj g p)))
          (λ kept. omega (arith, opened_above n adj keeps g p (g p) (omega (arith, opened_ge n adj keeps g p)) (omega arith) kept)),
    )),
    (λ inner.
        ⊎_elim
        (λ (stays : g p ≤ opened_by n adj keeps g p). clash _ (opened_kept n adj keeps up g p (g p) inner.0 stays) inner.1)
        (λ less. less)
        (le_or_lt (g p) (opened_by n adj keeps g p))),
  )
