-- Works, deliveries, drops and crashes leave the coordinator's mode, epoch and counts as they are.
use Rattle.std.proofs.Common.{◌≡◌, ℕ, Bool, false, refl, ap, Option, Some, None, nat_lt}
use Rattle.std.specs.Prelude.{is_none}
use Rattle.gr_program.specs.Program.{Program}
use Rattle.gr_batch.specs.declared.batch.Batch.{Batch}
use Rattle.gr_batch.specs.declared.outcome.Outcome.{Outcome}
use Rattle.gr_view.specs.declared.coordinator.Coordinator.{Coordinator}
use Rattle.gr_view.specs.declared.coordinator.Mode.{Mode}
use Rattle.gr_rules.specs.Todo.{Todo}
use Rattle.gr_cluster.specs.Tables.{Host, Cluster, host}
use Rattle.gr_cluster.specs.Todo.{todo}
use Rattle.gr_cluster.specs.Work.{worked, worked_at}
use Rattle.gr_cluster.specs.Network.{delivered, dropped, crashed}
use Rattle.gr_cluster.specs.Runs.{is_commit}
use Rattle.gr_lists.proofs.Tests.{by_test}

pub record IsUnruled (co co' : Coordinator) : Type 0 where
  pub mode : co'.mode ≡ co.mode
  pub epoch : co'.epoch ≡ co.epoch
  pub commits : co'.commits ≡ co.commits
  pub round : co'.round ≡ co.round
  pub limit : co'.limit ≡ co.limit

pub unruled : (co : Coordinator) → IsUnruled co co
unruled co = record { mode = refl; epoch = refl; commits = refl; round = refl; limit = refl }

module _ {V A : Type 0} (P : Program V A) (c : Cluster V A) where
  -- nor do they change the tables or commit
  pub record IsAside (r : Cluster V A × Outcome V A) : Type 0 where
    pub ruled : IsUnruled c.coordinator r.0.coordinator
    pub places : r.0.places ≡ c.places
    pub losses : r.0.losses ≡ c.losses
    pub none : is_commit r.1 ≡ false

  abbrev Told : Type 0
  Told = Mode × ℕ × ℕ × ℕ × ℕ × ℕ × ℕ × Bool

  abbrev told : Cluster V A → Bool → Told
  told d commits = let co = d.coordinator in (co.mode, co.epoch, co.commits, co.round, co.limit, d.places, d.losses, commits)

  aside : (r : Cluster V A × Outcome V A) → told r.0 (is_commit r.1) ≡ told c false → IsAside r
  aside r e = record {
    ruled = record { mode = ap (λ (k : Told). k.0) e; epoch = ap (λ (k : Told). k.1) e; commits = ap (λ (k : Told). k.2) e; round = ap (λ (k : Told). k.3) e; limit = ap (λ (k : Told). k.4) e };
    places = ap (λ (k : Told). k.5) e;
    losses = ap (λ (k : Told). k.6) e;
    none = ap (λ (k : Told). k.7) e;
  }

  worked-aside : (p : ℕ) (h : Host V A) (x : Todo) → IsAside (worked P c p h x)
  unfolding worked
  worked-aside p h Todo.Install = aside _ refl
  worked-aside p h _ = aside _ refl

  pub worked_at-aside : (p : ℕ) (o : Option (Host V A)) → IsAside (worked_at P c p o)
  worked_at-aside p None = aside _ refl
  worked_at-aside p (Some h) = worked-aside p h (todo c.coordinator p h)

  pub delivered-aside : (i : ℕ) (o : Option (Batch V A)) → IsAside (delivered c i o)
  unfolding delivered
  delivered-aside i None = aside _ refl
  delivered-aside i (Some b) = aside _ refl

  pub dropped-aside : (i : ℕ) (o : Option (Batch V A)) → IsAside (dropped c i o)
  unfolding dropped
  dropped-aside i None = aside _ refl
  dropped-aside i (Some b) = by_test (nat_lt b.epoch c.coordinator.epoch)
      (λ e. rw e (aside _ refl))
      (λ e. by_test (is_none (host c b.sender)) (λ k. rw (e, k) (aside _ refl)) (λ k. rw (e, k) (aside _ refl)))

  pub crashed-aside : (p n : ℕ) (o : Option (Host V A)) → IsAside (crashed c p n o)
  unfolding crashed
  crashed-aside p n None = aside _ refl
  crashed-aside p n (Some h) = aside _ refl

  pub worked-unruled : (p : ℕ) (h : Host V A) (x : Todo) → IsUnruled c.coordinator (worked P c p h x).0.coordinator
  worked-unruled p h x = (worked-aside p h x).ruled

  pub worked_at-unruled : (p : ℕ) (o : Option (Host V A)) → IsUnruled c.coordinator (worked_at P c p o).0.coordinator
  worked_at-unruled p o = (worked_at-aside p o).ruled

  pub delivered-unruled : (i : ℕ) (o : Option (Batch V A)) → IsUnruled c.coordinator (delivered c i o).0.coordinator
  delivered-unruled i o = (delivered-aside i o).ruled

  pub dropped-unruled : (i : ℕ) (o : Option (Batch V A)) → IsUnruled c.coordinator (dropped c i o).0.coordinator
  dropped-unruled i o = (dropped-aside i o).ruled

  pub crashed-unruled : (p n : ℕ) (o : Option (Host V A)) → IsUnruled c.coordinator (crashed c p n o).0.coordinator
  crashed-unruled p n o = (crashed-aside p n o).ruled
