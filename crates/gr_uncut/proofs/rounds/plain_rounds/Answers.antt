use Rattle.std.proofs.Common.{◌≡◌, ◌∙◌, ◌≤◌, ◌-◌, length, sym, ap, arith}
use Rattle.std.proofs.lemmas.List.{length-map, length-replicate}
use Rattle.std.proofs.lemmas.List.Elements.{All-replicate}
use Rattle.gr_edges.specs.Vertices.{ids, id_of}
use Rattle.gr_program.specs.Rounds.{state_after, last_from}
use Rattle.gr_program.proofs.LastRound.{last_from-off, last_from-zero}
use Rattle.gr_uncut.proofs.Runs.{first-holds, on-some, off-none, last_from-next, some-from_not, none-from}
use Rattle.gr_uncut.proofs.rounds.plain_rounds.Goals.{then-rounds-test+else-not-is_empty, else-rounds-test}
use Rattle.gr_uncut.proofs.rounds.plain_rounds.Goals as goal

pub rounds-init : goal.rounds-init
rounds-init g c =
    let p = g.P.VertexProgram.program_of c.args.program.now in
    let es = c.args.graph.now.edges in
    let vertices = c.args.graph.now.vertices in
    let vs = ids vertices in
    let count = length-map vertices id_of in
    record {
      within = omega arith;
      holds = rw (c.in_ok-active.ensures, c.vertex_count.ensures.count, ← count) (first-holds p es vs c.in_ok-values.values c.in_ok-values.ensures.first c.in_ok-values.ensures.kept);
      long = ap length c.in_ok-stamps.ensures ∙ length-replicate c.vertex_count-2.result 0 ∙ c.vertex_count-2.ensures.count;
      stamps = rw c.in_ok-stamps.ensures (All-replicate (λ stamp. stamp ≤ 0) c.vertex_count-2.result 0 (omega arith));
      rest = ap (λ n. last_from p es vs n 0) (omega arith);
    }

pub rounds-preserved : goal.rounds-preserved
rounds-preserved g c =
    let p = g.P.VertexProgram.program_of c.args.program.now in
    let es = c.args.graph.now.edges in
    let vs = ids c.args.graph.now.vertices in
    let r = c.rounds.last in
    let i = c.rounds.invariant in
    let h = c.if-not-is_empty.true in
    let on = on-some p es vs r c.rounds.values c.rounds.active i.holds (some-from_not c.is_empty.result (length c.rounds.active) c.is_empty.ensures h) in
    record {
      within = omega arith;
      holds = c.in_ok-active-2.ensures.after;
      long = c.in_ok-active-2.ensures.long;
      stamps = c.in_ok-active-2.ensures.stamps;
      rest = last_from-next p es vs c.args.limit r c.rounds-test.true on ∙ i.rest;
    }

pub returns : goal.returns
returns g c =
    let p = g.P.VertexProgram.program_of c.args.program.now in
    let es = c.args.graph.now.edges in
    let vs = ids c.args.graph.now.vertices in
    let r = c.rounds.last in
    let i = c.rounds.invariant in
    record {
      last = elim c.rounds-test.branch [
        | then-rounds-test+else-not-is_empty w ↦
            let off = off-none p es vs r c.rounds.values c.rounds.active i.holds (none-from w.is_empty.result (length c.rounds.active) w.is_empty.ensures w.if-not-is_empty.false) in
            sym (last_from-off p es vs (c.args.limit - r) r off) ∙ i.rest
        | else-rounds-test w ↦
            let past = w.rounds-test.false in
            let none : c.args.limit - r ≡ 0 = omega arith in
            sym (ap (λ n. last_from p es vs n r) none ∙ last_from-zero p es vs r) ∙ i.rest
      ];
      values = c.in_ok-values-2.ensures (state_after p es r).value (c.as_slice-2.ensures ∙ i.holds.values);
    }
