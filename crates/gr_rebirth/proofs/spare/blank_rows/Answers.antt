use Rattle.std.proofs.Common.{◌≡◌, ◌∙◌, ◌<◌, length, map, take, get_or, ap, sym}
use Rattle.std.proofs.lemmas.List.{length-map, get_or-map}
use Rattle.gr_base.specs.Rising.{RisesBy, with_item}
use Rattle.gr_lists.proofs.Maps.{map-rises}
use Rattle.gr_rows.specs.Layers.{CopyLayers, vertex_of}
use Rattle.gr_log.specs.Directory.{Entry}
use Rattle.gr_rules.specs.Rows.{blank_copy}
use Rattle.gr_rebirth.proofs.Next.{with_item-next}
use Rattle.gr_rebirth.proofs.spare.blank_rows.Goals as goal

pub loop-entry-preserved : goal.loop-entry-preserved
loop-entry-preserved g c =
    let es = c.args.directory.now in
    let i = c.loop-entry.entry-index in
    let e = c.entry-item.result in
    let f = λ (x : Entry). blank_copy {V = g.row.V.Denot} x in
    let cs = map f es in
    let lt : i < length cs = rw (length-map es f) c.loop-entry-test.true in
    let rise : RisesBy vertex_of cs = map-rises f vertex_of es c.requires in
    let item : c.blank_copy.result ≡ get_or cs i (f e) = c.blank_copy.ensures ∙ ap f c.entry-item.is ∙ sym (get_or-map f es i e (f e) c.loop-entry-test.true) in
    ap (λ (r : CopyLayers _). r.pending) c.in_ok-stage_copy.ensures.ok
    ∙ ap (with_item vertex_of c.blank_copy.result) c.loop-entry.invariant
    ∙ ap (λ x. with_item vertex_of x (take i cs)) item
    ∙ with_item-next vertex_of cs i (f e) rise lt
