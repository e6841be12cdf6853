-- The laws of the program.
use Rattle.std.specs.Prelude.{◌≡◌, ℕ, ◌+◌, ◌-◌, ◌<◌, ◌^◌, ◌==◌, ◌&&◌, nat_lt, Bool, true, false, IsTrue, if◌then◌else◌, refl}
use Rattle.std.proofs.Common.{arith}
use Rattle.std.proofs.lemmas.Bool.Decides.{nat_tests}
use Rattle.gr_program.specs.ProgramLaws.{ProgramLaws}
use Rattle.gr_sum.specs.Infinity.{infinity, is_number}
use Rattle.gr_min.specs.declared.hop.Hop.{Hop}
use Rattle.gr_min.specs.declared.hop.HopSum.{HopSum}
use Rattle.gr_min.specs.HopSum.{nowhere, offered, offer, reached_by}
use Rattle.gr_min.specs.Hops.{is_offer, passed_on, hops}
use Rattle.gr_min.specs.Laws.Better.{better-kept, better-assoc, better-comm, better-unit}

finite-kept : (d p : ℕ) → (nat_lt d infinity && nat_lt p infinity) ≡ true → IsTrue (is_number d && is_number p)
finite-kept d p h = grind (arith, nat_tests)

offered-kept : (d p : ℕ) (b : Bool) (is : (nat_lt d infinity && nat_lt p infinity) ≡ b) → IsTrue (is_offer (offered d p b is))
offered-kept d p true is = finite-kept d p is
offered-kept d p false is = refl

choice-kept : (b : Bool) (a : HopSum) → IsTrue (is_offer a) → IsTrue (is_offer (if b then a else nowhere))
choice-kept true a h = h
choice-kept false a h = refl

passed_on-kept : (x : Hop) → IsTrue (is_offer (passed_on x))
passed_on-kept x = choice-kept (nat_lt x.distance (infinity - 1)) (offer (x.distance + 1) x.at) (offered-kept (x.distance + 1) x.at _ refl)

hop-kept : (v : ℕ) (b : Bool) → v < 2 ^ 32 → IsTrue b → IsTrue (nat_lt v (2 ^ 32) && b)
hop-kept v b h k = grind (arith, nat_tests)

id-kept : (v : ℕ) (b : Bool) → IsTrue (nat_lt v (2 ^ 32) && b) → v < 2 ^ 32
id-kept v b h = grind (arith, nat_tests)

rest-kept : (v : ℕ) (b : Bool) → IsTrue (nat_lt v (2 ^ 32) && b) → IsTrue b
rest-kept v b h = grind (arith, nat_tests)

pub hops_laws : (source : ℕ) → ProgramLaws (hops source)
hops_laws source = record {
  start_kept = λ v i o h. hop-kept v _ h (choice-kept (v == source) (offer 0 v) (offered-kept 0 v _ refl));
  unit_kept = refl;
  along_kept = λ x w d k h. passed_on-kept x;
  join_kept = λ a b h k. better-kept a b h k;
  apply_kept = λ v x a h k. hop-kept x.at _ (id-kept x.at _ h) (better-kept (reached_by x) a (rest-kept x.at _ h) k);
  assoc = λ a b c _ _ _. better-assoc a b c;
  comm = λ a b _ _. better-comm a b;
  unit_left = λ a h. better-unit a h;
  apply_forgets = λ h. absurd (cc h);
  along_stays = λ h. absurd (cc h);
}
