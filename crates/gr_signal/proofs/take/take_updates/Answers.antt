use Rattle.std.proofs.Common.{◌∙◌, take, map, sym, ap, arith}
use Rattle.std.specs.Prelude.{is_some}
use Rattle.std.proofs.lemmas.List.{take_all}
use Rattle.gr_batch.specs.declared.body.NewValue.{NewValue}
use Rattle.gr_rows.specs.Layers.{CopyLayers, copy_with_value}
use Rattle.gr_rules.specs.Rows.{row, with_values}
use Rattle.gr_signal.proofs.Updates.{values-none, values-more, some-values}
use Rattle.gr_signal.proofs.take.take_updates.Goals as goal

pub loop-line-init : goal.loop-line-init
loop-line-init g c = ap (λ l. record (c.args.rows.now) { pending = l }) (sym (values-none c.args.rows.now.pending))

pub stage_value-requires : goal.stage_value-requires
stage_value-requires g c =
    let i = c.loop-line.line-index in
    let n = c.line-item.result in
    let rows = c.args.rows.now.pending in
    record {
      known = ap (λ (l : CopyLayers g.row.V.Denot). is_some (row l.pending n.vertex)) c.loop-line.invariant
          ∙ some-values rows (take i c.args.body.now) n.vertex
          ∙ ap (λ (m : NewValue g.row.V.Denot). is_some (row rows m.vertex)) c.line-item.is
          ∙ c.requires.known i n (omega arith);
    }

pub loop-line-preserved : goal.loop-line-preserved
loop-line-preserved g c =
    let i = c.loop-line.line-index in
    let n = c.line-item.result in
    c.stage_value.ensures
    ∙ ap (λ (l : CopyLayers g.row.V.Denot). record l { pending = map (copy_with_value n.vertex n.value) l.pending }) c.loop-line.invariant
    ∙ ap (λ l. record (c.args.rows.now) { pending = l }) (values-more c.args.rows.now.pending c.args.body.now i n c.requires.rise (omega arith) c.line-item.is)

pub returns : goal.returns
returns g c =
    c.loop-line.invariant ∙ ap (λ l. record (c.args.rows.now) { pending = with_values l c.args.rows.now.pending }) (take_all c.loop-line.line-index c.args.body.now (omega arith))
