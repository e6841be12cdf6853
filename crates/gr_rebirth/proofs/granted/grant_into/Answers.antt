use Rattle.std.proofs.Common.{◌∙◌, [], ap, Result, Ok, Err}
use Rattle.std.specs.Prelude.{OnOk}
use Rattle.gr_log.specs.Directory.{with_items}
use Rattle.gr_rows.specs.Layers.{CopyLayers, vertex_of}
use Rattle.gr_lists.proofs.Items.{items-last}
use Rattle.gr_rebirth.proofs.granted.grant_into.Goals as goal

-- what follows where a call answers Ok
OnOk-so : {X E S T : Type 0} (r : Result X E) → (S → T) → OnOk r S → OnOk r T
OnOk-so (Ok x) f s = f s
OnOk-so (Err e) f s = tt

pub returns-clause-ok : goal.returns-clause-ok
returns-clause-ok g c =
    let pending = c.args.rows.now.pending in
    OnOk-so c.stage_copies.result
    (λ ok. ap (λ (l : CopyLayers g.row.V.Denot). l.pending) ok
    ∙ (ap (λ xs. with_items vertex_of xs pending) (c.as_slice.ensures ∙ c.in_ok-last.ensures.last)
    ∙ items-last vertex_of c.args.body.now pending c.pending_count-count.ensures.rise.pending_rises))
    c.stage_copies.ensures.ok
