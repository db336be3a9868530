-- `cases::table::field` meets its contract. Assumes nothing.
use Rattle.std.proofs.Common.{◌≡◌, rules, tests, ◌∙◌, ap, refl, [], ◌==◌, Option, Some, None}
use Rattle.std.specs.Option.{unwrap_or, option_map}
use Rattle.std.specs.List.{slice_get, slice_split}
use Rattle.std.proofs.lemmas.Iterator.Consumers.{nth_from_yields_List}
use Rattle.std.proofs.lemmas.Iterator.Splits.{YieldsList-from_slice_split}
use Rattle.cases.proofs.table.field.Goals as goal

unwrap_or_viewed : {A B : Type 0} (view : A → B) (o : Option A) (d : A) → view (unwrap_or o d) ≡ unwrap_or (option_map view o) (view d)
unwrap_or_viewed view (Some x) d = refl
unwrap_or_viewed view None d = refl

pub returns : goal.returns
returns c =
    let part : option_map (λ r. r.now) c.nth.result ≡ slice_get (slice_split (λ b. b == 9) c.args.line.now) c.args.k =
    nth_from_yields_List _ _ c.args.k c.nth.ensures.ran (YieldsList-from_slice_split _ _ c.args.line.now c.split.ensures.rest c.split.ensures.done c.split.ensures.closure (λ x r q k. search (rules, tests))) in
    ap (λ r. r.now) c.unwrap_or.ensures ∙ unwrap_or_viewed (λ r. r.now) c.nth.result _ ∙ ap (λ o. unwrap_or o []) part
