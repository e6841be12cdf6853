-- A batch from its parts, and from its bytes.
use Rattle.std.proofs.Common.{◌≡◌, ◌≢◌, ◌∙◌, ◌<◌, ◌^◌, ℕ, List, [], ◌∷◌, ◌++◌, All, get_or, Result, Ok, Err, Option, Some, None, refl, sym, ap, arith, inl, inr}
use Rattle.std.specs.Prelude.{IfOk, IfSome, IfNone}
use Rattle.std.specs.List.{flat_map}
use Rattle.std.proofs.lemmas.List.{append-nil}
use Rattle.std.proofs.lemmas.List.Elements.{All-from_get_or}
use Rattle.gr_base.specs.declared.records.OutOfMemory.{OutOfMemory}
use Rattle.gr_batch.specs.declared.body.Body.{Body}
use Rattle.gr_batch.specs.declared.batch.Batch.{Batch}
use Rattle.gr_batch.specs.declared.reading.Head.{Head}
use Rattle.gr_batch.specs.Stages.{code_of}
use Rattle.gr_batch.specs.Bodies.{stage_of_body}
use Rattle.gr_batch.specs.Telling.{Telling}
use Rattle.gr_batch.specs.Spelling.{number_bytes, body_numbers, batch_numbers, batch_bytes, IsSpelled}
use Rattle.gr_batch.specs.Reading.{IsFront, HasNoFront, IsHead, TellBody, head_told}
use Rattle.gr_batch.proofs.Apart.{told-cons, one-goes_on}
use Rattle.gr_batch.proofs.Numbers.{IsWord, numbers-apart, shorter}

module _ {V A : Type 0} (T : Telling V A) where
  abbrev head_of : Batch V A → Head
  head_of b = record { serial = b.serial; epoch = b.epoch; round = b.round; code = code_of (stage_of_body b.body); sender = b.sender; receiver = b.receiver }

  abbrev pub batch_of : Head → Body V A → Batch V A
  batch_of h body = record { serial = h.serial; epoch = h.epoch; round = h.round; sender = h.sender; receiver = h.receiver; body = body }

  head-is : (b : Batch V A) → IsSpelled T b → IsHead (head_of b)
  head-is b h = record { round = h.round; sender = h.sender; receiver = h.receiver; apart = h.apart }

  pub no-head : (numbers : List ℕ) → HasNoFront head_told IsHead numbers → (b : Batch V A) → IsSpelled T b → numbers ≢ batch_numbers T b
  no-head numbers none b h e = none (head_of b) (body_numbers T b.body) (head-is b h) e

  pub batch-found : (numbers : List ℕ) (h : Head) (rest : List ℕ) (body : Body V A) → ((i : ℕ) → get_or numbers i 0 < 2 ^ 64) → IsFront head_told IsHead numbers h rest → TellBody T h.code rest body
      → IsSpelled T (batch_of h body) × (numbers ≡ batch_numbers T (batch_of h body))
  batch-found numbers h rest body small front told =
      let whole : numbers ≡ batch_numbers T (batch_of h body) = front.parts ∙ ap (λ (l : List ℕ). head_told h ++ l) told.parts ∙ ap (λ (k : ℕ). h.serial ∷ h.epoch ∷ h.round ∷ k ∷ h.sender ∷ h.receiver ∷ body_numbers T body) (sym told.stage) in
      let words : All IsWord numbers = All-from_get_or IsWord numbers 0 (λ i lt. small i) in (
        record {
          numbers = rw whole at words;
          round = front.fits.round;
          sender = front.fits.sender;
          receiver = front.fits.receiver;
          apart = front.fits.apart;
          items = told.spelled;
        },
        whole,
      )

  -- ---- from bytes

  none-more : (ns : List ℕ) → [] ≡ flat_map number_bytes ns ++ [] → ns ≡ []
  none-more [] e = refl
  none-more (n ∷ ns) e = absurd (omega (arith, shorter n [] (flat_map number_bytes ns ++ []) (e ∙ told-cons number_bytes IsWord n ns [])))

  pub numbers-same : (ms ns : List ℕ) → All IsWord ms → All IsWord ns → flat_map number_bytes ms ≡ flat_map number_bytes ns → ms ≡ ns
  numbers-same ms ns hm hn e =
      elim (one-goes_on number_bytes IsWord numbers-apart ms ns [] [] hm hn (ap (λ (l : List ℕ). l ++ []) e)) [
        | inl g ↦ sym (g.items ∙ ap (λ (l : List ℕ). ms ++ l) (none-more g.more g.numbers) ∙ append-nil ms)
        | inr g ↦ g.items ∙ ap (λ (l : List ℕ). ns ++ l) (none-more g.more g.numbers) ∙ append-nil ns
      ]

  module _ (bytes numbers : List ℕ) (words : All IsWord numbers) (spelled : bytes ≡ flat_map number_bytes numbers) where
    pub bytes-found : (r : Result (Option (Batch V A)) OutOfMemory) → IfOk r (λ o. IfSome o (λ b. IsSpelled T b × (numbers ≡ batch_numbers T b))) → IfOk r (λ o. IfSome o (λ b. bytes ≡ batch_bytes T b))
    unfolding batch_bytes
    bytes-found (Ok (Some b)) h = spelled ∙ ap (flat_map number_bytes) h.1
    bytes-found (Ok None) h = tt
    bytes-found (Err e) h = tt

    pub bytes-absent : (r : Result (Option (Batch V A)) OutOfMemory) → IfOk r (λ o. IfNone o ((b : Batch V A) → IsSpelled T b → numbers ≢ batch_numbers T b)) → IfOk r (λ o. IfNone o ((b : Batch V A) → IsSpelled T b → bytes ≢ batch_bytes T b))
    unfolding batch_bytes
    bytes-absent (Ok (Some b)) h = tt
    bytes-absent (Ok None) h = λ b is e. h b is (numbers-same numbers (batch_numbers T b) words is.numbers (sym spelled ∙ e))
    bytes-absent (Err e) h = tt

  pub no-numbers : (bytes : List ℕ) → ((ns : List ℕ) → All IsWord ns → bytes ≢ flat_map number_bytes ns) → (b : Batch V A) → IsSpelled T b → bytes ≢ batch_bytes T b
  unfolding batch_bytes
  no-numbers bytes none b is e = none (batch_numbers T b) is.numbers e
