-- What a step keeps, and what it leaves of the way to the end.
use Rattle.std.proofs.Common.{◌≡◌, ◌≤◌, ℕ, ◌+◌, Bool, refl, sym, subst, arith, Some, ◌⊎◌, inl, inr}
use Rattle.gr_program.specs.Program.{Program}
use Rattle.gr_program.specs.ProgramLaws.{ProgramLaws}
use Rattle.gr_batch.specs.Telling.{Telling}
use Rattle.gr_outside.specs.Files.{FilesSeen}
use Rattle.gr_sched.specs.declared.event.Event.{Event}
use Rattle.gr_cluster.specs.Tables.{Cluster}
use Rattle.gr_cluster.specs.Canonical.{next_canonical}
use Rattle.gr_cluster.specs.Step.{step}
use Rattle.gr_cluster.specs.ToGo.{most_added, to_go}
use Rattle.gr_agree.specs.Agree.{Invariant}
use Rattle.gr_law_runs.proofs.Left.Same.{step-places}
use Rattle.gr_law_runs.proofs.Bounds.ToGo.{to_go-added, to_go-falls}
use Rattle.gr_play.specs.Inside.Progress.{PlaysEvent, FailsBefore, FailsAfter}
use Rattle.gr_play.specs.Inside.Room.{HasRoomFor}
use Rattle.gr_play.proofs.Rooms.{HasRoomFor-canonical}

-- what a call that plays one event leaves: the cluster and the count as they were, or after the step
module _ {V A : Type 0} (P : Program V A) (L : ProgramLaws P) (c : Cluster V A) (I : Invariant P c) (from : ℕ) (e : Event) where
  pub record Moved (d : Cluster V A) (to : ℕ) : Type 0 where
    pub places : d.places ≡ c.places
    -- a line is used, or the end is nearer
    pub few : to + to_go d ≤ from + to_go c + most_added
    pub nearer : next_canonical c ≡ Some e → to + to_go d ≤ from + to_go c
    pub room : next_canonical c ≡ Some e → (n : ℕ) → HasRoomFor c from n → HasRoomFor d to n

  Moved-nothing : Moved c from
  Moved-nothing = record { places = refl; few = omega arith; nearer = λ is. omega arith; room = λ is n R. R }

  Moved-step : Invariant P (step P c e).0 → Moved (step P c e).0 (from + 1)
  Moved-step K = record {
    places = step-places P c e;
    few = let g = to_go-added P c e I K in omega (arith, g);
    nearer = λ is. let g = to_go-falls P c e I K L is in omega (arith, g);
    room = λ is n R. HasRoomFor-canonical P c e I K from L is n R;
  }

  module _ (T : Telling V A) (traced : Bool) (a b : FilesSeen) (d : Cluster V A) (K : Invariant P d) (to : ℕ) where
    after-step : d ≡ (step P c e).0 → to ≡ from + 1 → Moved d to
    after-step same counted = subst (Moved d) (sym counted) (subst (λ k. Moved k (from + 1)) (sym same) (Moved-step (subst (Invariant P) same K)))

    pub PlaysEvent-moved : (commits : Bool) → PlaysEvent P T traced from to a b c e d commits → Moved d to
    PlaysEvent-moved commits x = after-step x.cluster x.counted

    pub Fails-moved : FailsBefore P T traced from to a b c e d ⊎ FailsAfter P T traced from to a b c e d → Moved d to
    Fails-moved (inl x) = subst (Moved d) (sym x.counted) (subst (λ k. Moved k from) (sym x.cluster) Moved-nothing)
    Fails-moved (inr x) = after-step x.cluster x.counted
