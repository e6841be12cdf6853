use Rattle.std.proofs.Common.{◌∙◌, Some, sym}
use Rattle.gr_migrate.proofs.GrantLines.{grant_line-none, grant_line-some}
use Rattle.gr_migrate.proofs.grant.grant.Goals as goal

pub returns-in_err-holders : goal.returns-in_err-holders
returns-in_err-holders g c =
    c.from_residual.ensures ∙ grant_line-none c.args.view.now c.args.me c.args.askers c.args.to c.args.copy.now (sym c.in_err-holders.was ∙ c.granted_holders.ensures)

pub returns : goal.returns
returns g c =
    let w = c.args.view.now in
    let x = c.args.copy.now in
    let one = grant_line-some w c.args.me c.args.askers c.args.to x c.in_ok-holders.holders (sym c.is_granter.ensures ∙ c.if-not-is_granter.false) c.in_ok-holders.ensures in
    (λ i. Some (record {
      vertex = x.vertex;
      indeg = x.indeg;
      outdeg = x.outdeg;
      master = c.master_after.ensures i;
      holders = one.1 i;
      value = c.granted_value.ensures i;
      due = c.granted_due.ensures i;
    }))
    ∙ sym one.0
