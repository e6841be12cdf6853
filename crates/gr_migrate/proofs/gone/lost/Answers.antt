use Rattle.std.proofs.Common.{◌≡◌, ◌∙◌, List, [], ap, sym, map, arith, rules}
use Rattle.std.specs.List.{filter, fold}
use Rattle.std.proofs.lemmas.List.Sums.{fold-append}
use Rattle.gr_base.specs.Rising.{has, includes}
use Rattle.gr_base.specs.Places.{with_place}
use Rattle.gr_log.specs.Directory.{Entry, rising, directory_in}
use Rattle.gr_migrate.proofs.Placed.{parts, parts-with, parts-same}
use Rattle.gr_migrate.proofs.LostParts.{gone_at, lost_of-parts}
use Rattle.gr_migrate.proofs.gone.lost.Goals as goal
use Rattle.gr_migrate.proofs.gone.lost.Goals.{then-has+in_ok-records+in_ok-entries+in_ok-add_lost, else-has}

pub loop-p-preserved : goal.loop-p-preserved
loop-p-preserved c =
    let dead = c.args.dead in
    let logs = c.args.logs.now in
    let p = c.loop-p.p in
    let all = parts (has dead) (gone_at dead logs) p in
    elim c.if-has.branch [
      | then-has+in_ok-records+in_ok-entries+in_ok-add_lost w ↦
          let add = λ (es : List Entry). fold with_place c.loop-p.vertices.keys (map (λ (e : Entry). e.vertex) (filter (λ (e : Entry). includes dead e.holders) es)) in
          let more = parts-with (has dead) (gone_at dead logs) p (sym c.has.ensures.test ∙ w.if-has.true) in
          let read = w.in_ok-entries.ensures.entries ∙ ap directory_in (w.as_slice.ensures ∙ w.in_ok-records.ensures) in
          ap (λ s. s.keys) w.vertices-is ∙ (w.in_ok-add_lost.ensures ∙ (ap add (w.as_slice-then-has.ensures ∙ read)
          ∙ (ap (λ ns. fold with_place ns (gone_at dead logs p)) c.loop-p.invariant
          ∙ (sym (fold-append with_place [] all (gone_at dead logs p)) ∙ ap rising (sym more)))))
      | else-has w ↦
          ap (λ s. s.keys) w.vertices-is ∙ (c.loop-p.invariant ∙ ap rising (sym (parts-same (has dead) (gone_at dead logs) p (sym c.has.ensures.test ∙ w.if-has.false))))
    ]

pub returns : goal.returns
returns c =
    let end : c.loop-p.p ≡ 64 = omega arith in
    let got : c.in_ok-collect.field-0.items ≡ c.loop-p.vertices.keys = search rules in
    c.from_vec.ensures ∙ (got ∙ (c.loop-p.invariant ∙ (ap (λ n. rising (parts (has c.args.dead) (gone_at c.args.dead c.args.logs.now) n)) end
    ∙ lost_of-parts c.args.dead c.args.logs.now c.has-known.ensures.places)))
