-- The record of a picture can be climbed, and the grey that a climb finds is the opened one. Assumes that neighbours are mutual, that
-- an attribute cannot fall as a set grows and is above 0 of a set with a pixel in it, and that the whole picture is connected.
use Prim.Native.Nat.{ℕ, ◌<◌}
use mathlib.Core.List.{List}
use mathlib.Core.Logic.{inl, inr, ⊎_elim}
use mathlib.Core.Path.{◌≡◌, sym, ap, ◌∙◌}
use native.Mathlib.Omega.{arith}
use lib.ListN.{length}
use lib.Seq.{ext_get_or}
use borrow.Author.Tests.{le-leb, lt-leb}
use Rattle.sets.specs.Sets.{Positions, table, member}
use Rattle.sets.proofs.Laws.{length_table, table_at}
use Rattle.connected.specs.Component.{Adjacency, Symmetric}
use Rattle.opening.specs.Opening.{Increasing, at_least, least_grey, opened}
use Rattle.opening.specs.Node.{node}
use Rattle.opening.proofs.Threshold.{at_least_up}
use Rattle.tree.specs.Tree.{representative, workspace}
use Rattle.tree.proofs.Together.{Together}
use Rattle.tree.proofs.Representatives.{representative_in, representative_grey}
use Rattle.tree.proofs.Parents.{Root}
use Rattle.tree.proofs.Climb.{opened_own, opened_parent, opened_node, opened_root}
use Rattle.tree.proofs.Words.{Positive, length_workspace, parent_at, attribute_at}
use Rattle.tree.proofs.Reading.{Reading, Self, Up, at_pixel, at_unmarked, at_representative, leads_self, leads_marked, leads_up}
use Rattle.calls.specs.Calls.{grey}
use Rattle.openings.specs.Climbing.{parent, attribute, Climbable, Kept, kept, root, up, OpenedTo, OpenedBefore}

module _ (n : ℕ) (adj : Adjacency) (symm : Symmetric adj) (attr : Positions → ℕ) (some : Positive n attr) (picture : List ℕ) where
  -- the record's words
  abbrev record_words : List ℕ
  record_words = workspace n adj attr (grey picture)

  reading : Reading n adj attr (grey picture) (parent record_words) (attribute record_words n)
  reading = record { parents = parent_at n adj attr (grey picture); attributes = attribute_at n adj attr (grey picture) }

  pub record_climbable : length picture ≡ n → Climbable picture record_words n
  record_climbable size =
      record {
        greys = size;
        room = omega (arith, length_workspace n adj attr (grey picture));
        within = λ p b. (leads_self symm some reading p b).0;
        leads = λ p b none. omega (arith, leads_marked symm some reading p b);
        falls = λ p b marked. ⊎_elim (λ next. inr next.darker) (λ top. inl top.1) (leads_up symm some reading p b (omega arith));
        lowest = λ p b none.
            let other = at_unmarked symm some reading p b none in
            omega (arith, other.lower, other.is_own);
      }

  module _ (increasing : Increasing n attr)
      (whole : (p q : ℕ) → p < n → q < n → Together n adj (grey picture) (least_grey n (grey picture)) p q) (t : ℕ) where
    -- where the climb goes on, the parent's opened grey is the node's
    opened_up : (r q : ℕ) → r < n → attr (member (node n adj (grey picture) r)) < t → Up n adj (grey picture) r q
        → opened n adj attr t (grey picture) q ≡ opened n adj attr t (grey picture) r
    opened_up r q b gone (inl next) =
        sym (opened_parent n adj symm (grey picture) (at_least attr t) (at_least_up n attr increasing t) r q b (lt-leb t _ gone) next)
    opened_up r q b gone (inr (none, e)) = ap (opened n adj attr t (grey picture)) e

    is_root : (r q : ℕ) → q ≡ r → Up n adj (grey picture) r q → Root n adj (grey picture) r
    is_root r q e (inl next) = absurd (omega (arith, next.darker, ap (grey picture) e))
    is_root r q e (inr (none, same)) = none

    kept_opened : {k r v : ℕ} → Kept picture record_words n t k r v → Self n adj (grey picture) r → v ≡ opened n adj attr t (grey picture) r
    kept_opened {k} {r} (kept le) (b, self) =
        sym
        (opened_node n adj symm (grey picture) (at_least attr t) (at_least_up n attr increasing t) r b
        (le-leb t _ (omega (arith, le, (at_representative symm some reading r (b, self)).is_attribute))))
    kept_opened {k} {r} (root top) (b, self) =
        let of = at_representative symm some reading r (b, self) in
        sym
        (opened_root n adj symm (grey picture) (at_least attr t) (at_least_up n attr increasing t) whole r b
        (is_root r (parent record_words r) top (leads_up symm some reading r b of.above_zero)))
    kept_opened {k} {r} (up gone rest) (b, self) =
        let of = at_representative symm some reading r (b, self) in
        kept_opened rest (leads_self symm some reading r b)
        ∙ opened_up r (parent record_words r) b (omega (arith, gone, of.is_attribute)) (leads_up symm some reading r b of.above_zero)

    -- the grey that a climb from the representative finds is the opened one
    opened_to : (p v : ℕ) → p < n → OpenedTo picture record_words n t p v → v ≡ opened n adj attr t (grey picture) p
    opened_to p v b found =
        ⊎_elim
        (λ of. kept_opened (found.itself (λ none. omega (arith, of.above_zero))).found (b, of.self))
        (λ other.
        kept_opened (found.own other.is_zero).found (leads_self symm some reading p b)
        ∙ ap (opened n adj attr t (grey picture)) other.is_own
        ∙ sym
        (opened_own n adj symm (grey picture) (at_least attr t) (at_least_up n attr increasing t) p
        (representative n adj (grey picture) p)
        b
        (rw (representative_grey n adj symm (grey picture) p b) (representative_in n adj symm (grey picture) p b))
        (representative_grey n adj symm (grey picture) p b)))
        (at_pixel symm some reading p b)

    pub pass_opened : (output : List ℕ) → length output ≡ n → OpenedBefore picture record_words n t n output
        → output ≡ table n (opened n adj attr t (grey picture))
    pass_opened output entries found =
        ext_get_or
        0
        output
        (table n (opened n adj attr t (grey picture)))
        (entries ∙ sym (length_table n (opened n adj attr t (grey picture))))
        (λ p below.
        let b : p < n = omega arith in
        opened_to p (grey output p) b (found p b) ∙ sym (table_at n (opened n adj attr t (grey picture)) p 0 b))
