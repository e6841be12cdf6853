-- The Grant body of a repair, copy by copy.
use Rattle.std.proofs.Common.{◌≡◌, ℕ, true, List, [], Option, Some, None, refl}
use Rattle.std.specs.Prelude.{if◌then◌else◌}
use Rattle.std.specs.List.{filter_map}
use Rattle.gr_base.specs.Rising.{RisesBy}
use Rattle.gr_program.specs.declared.copy.VertexCopy.{VertexCopy}
use Rattle.gr_copies.specs.declared.view.RebuildView.{RebuildView}
use Rattle.gr_lists.proofs.Chosen.{if-some, filter_map-rises}
use Rattle.gr_rules.specs.Grants.{wanted, grant_body, granted_copy, is_granted_to}

module _ {V : Type 0} (w : RebuildView) (p q : ℕ) where
  abbrev pub line : VertexCopy V → Option (VertexCopy V)
  line c = if is_granted_to w (wanted true w) p q c [] then Some (granted_copy w (wanted true w) c [] q) else None

  pub grant_body-lines : (rows : List (VertexCopy V)) → grant_body w (wanted true w) p (λ v. []) rows q ≡ filter_map line rows
  unfolding grant_body
  grant_body-lines rows = refl

  pub lines-rise : (rows : List (VertexCopy V)) → RisesBy (λ (c : VertexCopy V). c.vertex) rows → RisesBy (λ (c : VertexCopy V). c.vertex) (filter_map line rows)
  lines-rise rows r = filter_map-rises line (λ c. c.vertex) (λ c. c.vertex) (λ c. if-some (λ (d : VertexCopy V). d.vertex ≡ c.vertex) (is_granted_to w (wanted true w) p q c []) (granted_copy w (wanted true w) c [] q) (λ on. refl)) rows r
