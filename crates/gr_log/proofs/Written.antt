-- What is read was written: the bytes of a record that stands are its own, and a record that is written is read again.
use Rattle.std.proofs.Common.{◌≡◌, ◌∙◌, ◌+◌, ◌<◌, ◌≤◌, ◌^◌, ◌/◌, ℕ, zero, suc, List, [], ◌∷◌, ◌++◌, length, take, drop, get_or, Some, refl, ap, sym, arith, inl, inr}
use Rattle.std.specs.Prelude.{slice_index}
use Rattle.std.specs.List.{All}
use Rattle.std.specs.Int.{w32, w64, to_le_bytes, from_le_bytes, bytes_low_first, byte_at}
use Rattle.std.proofs.Math.Nat.{mod-lt}
use Rattle.std.proofs.Math.Seq.{drop-cons}
use Rattle.std.proofs.lemmas.Nat.{le_bytes_4, le_bytes_8, from_le_bytes-to_le_bytes_4, from_le_bytes-to_le_bytes_8}
use Rattle.std.proofs.lemmas.List.{length-take-le, length-drop, drop-drop}
use Rattle.std.proofs.lemmas.List.Elements.{All-cons, All-append, All-take, All-drop, All-tail}
use Rattle.gr_base.specs.Places.{word_of}
use Rattle.gr_base.specs.PlaceBits.{members_from, is_bit}
use Rattle.gr_base.specs.Words.{word_of-members}
use Rattle.gr_log.specs.declared.record.LogRecord.{LogRecord}
use Rattle.gr_log.specs.declared.record.LogRecord.TheVariants as entry
use Rattle.gr_log.specs.Bytes.{record_bytes}
use Rattle.gr_log.specs.Reading.{held_in, kept_in, first_record}
use Rattle.gr_log.proofs.Reading.{size, first-is, held-first, kept-first, first-fits}

abbrev pub Byte : ℕ → Type 0
Byte b = b < 256

abbrev Bytes : List ℕ → Type 0
Bytes bs = All Byte bs

get-small : (bs : List ℕ) → Bytes bs → (i : ℕ) → get_or bs i 0 < 256
get-small [] small i = omega arith
get-small (b ∷ bs) small zero = small 0 0 (omega arith)
get-small (b ∷ bs) small (suc i) = get-small bs (All-tail Byte b bs small) i

-- ---- numbers

four : (bs : List ℕ) → 4 ≤ length bs → Bytes bs → to_le_bytes w32 (from_le_bytes w32 bs) ++ drop 4 bs ≡ bs
four [] le small = absurd (omega arith)
four (a ∷ []) le small = absurd (omega arith)
four (a ∷ b ∷ []) le small = absurd (omega arith)
four (a ∷ b ∷ c ∷ []) le small = absurd (omega arith)
four (a ∷ b ∷ c ∷ d ∷ rest) le small =
    ap (λ (l : List ℕ). l ++ rest) (le_bytes_4 (a ∷ b ∷ c ∷ d ∷ []) (from_le_bytes w32 (a ∷ b ∷ c ∷ d ∷ [])) refl (get-small (a ∷ b ∷ c ∷ d ∷ []) (All-take Byte 4 (a ∷ b ∷ c ∷ d ∷ rest) small)) refl)

word-small : (bs : List ℕ) → Bytes bs → from_le_bytes w64 bs < 2 ^ 64
word-small bs small =
    let s = get-small bs small in
    let s0 = s 0 in let s1 = s 1 in let s2 = s 2 in let s3 = s 3 in let s4 = s 4 in let s5 = s 5 in let s6 = s 6 in let s7 = s 7 in
    omega arith

-- ---- what is read was written

module _ (bs : List ℕ) (small : Bytes bs) where
  four-at : (i : ℕ) → i + 4 ≤ length bs → to_le_bytes w32 (from_le_bytes w32 (drop i bs)) ++ drop (i + 4) bs ≡ drop i bs
  four-at i le =
      ap (λ (l : List ℕ). to_le_bytes w32 (from_le_bytes w32 (drop i bs)) ++ l) (sym (drop-drop 4 i bs))
      ∙ four (drop i bs) (omega (arith, length-drop i bs)) (All-drop Byte i bs small)

  four-last : (i : ℕ) → i + 4 ≡ length bs → to_le_bytes w32 (from_le_bytes w32 (drop i bs)) ≡ drop i bs
  four-last i e = le_bytes_4 (drop i bs) (from_le_bytes w32 (drop i bs)) (omega (arith, length-drop i bs)) (get-small (drop i bs) (All-drop Byte i bs small)) refl

  pub held-written : length bs ≡ 21 → record_bytes (held_in bs) ≡ 0x43 ∷ bs
  held-written long =
      let word : word_of (members_from (is_bit (from_le_bytes w64 (drop 13 bs))) 0 64) ≡ from_le_bytes w64 (drop 13 bs) = word_of-members (from_le_bytes w64 (drop 13 bs)) (word-small (drop 13 bs) (All-drop Byte 13 bs small)) in
      let holders : to_le_bytes w64 (word_of (members_from (is_bit (from_le_bytes w64 (drop 13 bs))) 0 64)) ≡ drop 13 bs =
      ap (to_le_bytes w64) word ∙ le_bytes_8 (drop 13 bs) (from_le_bytes w64 (drop 13 bs)) (omega (arith, length-drop 13 bs)) (get-small (drop 13 bs) (All-drop Byte 13 bs small)) refl in
      let master : slice_index bs 12 ∷ drop 13 bs ≡ drop 12 bs = sym (drop-cons bs 12 0 (omega arith)) in
      ap (λ (l : List ℕ). 0x43 ∷ (to_le_bytes w32 (from_le_bytes w32 bs) ++ (to_le_bytes w32 (from_le_bytes w32 (drop 4 bs)) ++ (to_le_bytes w32 (from_le_bytes w32 (drop 8 bs)) ++ (slice_index bs 12 ∷ l))))) holders
      ∙ ap (λ (l : List ℕ). 0x43 ∷ (to_le_bytes w32 (from_le_bytes w32 bs) ++ (to_le_bytes w32 (from_le_bytes w32 (drop 4 bs)) ++ (to_le_bytes w32 (from_le_bytes w32 (drop 8 bs)) ++ l)))) master
      ∙ ap (λ (l : List ℕ). 0x43 ∷ (to_le_bytes w32 (from_le_bytes w32 bs) ++ (to_le_bytes w32 (from_le_bytes w32 (drop 4 bs)) ++ l))) (four-at 8 (omega arith))
      ∙ ap (λ (l : List ℕ). 0x43 ∷ (to_le_bytes w32 (from_le_bytes w32 bs) ++ l)) (four-at 4 (omega arith))
      ∙ ap (λ (l : List ℕ). 0x43 ∷ l) (four-at 0 (omega arith))

  pub kept-written : length bs ≡ 16 → record_bytes (kept_in bs) ≡ 0x45 ∷ bs
  kept-written long =
      ap (λ (l : List ℕ). 0x45 ∷ (to_le_bytes w32 (from_le_bytes w32 bs) ++ (to_le_bytes w32 (from_le_bytes w32 (drop 4 bs)) ++ (to_le_bytes w32 (from_le_bytes w32 (drop 8 bs)) ++ l)))) (four-last 12 (omega arith))
      ∙ ap (λ (l : List ℕ). 0x45 ∷ (to_le_bytes w32 (from_le_bytes w32 bs) ++ (to_le_bytes w32 (from_le_bytes w32 (drop 4 bs)) ++ l))) (four-at 8 (omega arith))
      ∙ ap (λ (l : List ℕ). 0x45 ∷ (to_le_bytes w32 (from_le_bytes w32 bs) ++ l)) (four-at 4 (omega arith))
      ∙ ap (λ (l : List ℕ). 0x45 ∷ l) (four-at 0 (omega arith))

pub first-written : (d : List ℕ) (r : LogRecord) → Bytes d → first_record d ≡ Some r → record_bytes r ≡ take (size r) d
first-written [] r small is = let fits = first-fits [] r is in absurd (omega (arith, fits.0, fits.1))
first-written (t ∷ bs) r small is = elim (first-is t bs r is) [
  | inl h ↦
      let s : size r ≡ 22 = ap size h.is in
      ap record_bytes h.is
      ∙ held-written (take 21 bs) (All-take Byte 21 bs (All-tail Byte t bs small)) (length-take-le 21 bs h.long)
      ∙ ap (λ (n : ℕ). n ∷ take 21 bs) (sym h.tag)
      ∙ sym (ap (λ (n : ℕ). take n (t ∷ bs)) s)
  | inr h ↦
      let s : size r ≡ 17 = ap size h.is in
      ap record_bytes h.is
      ∙ kept-written (take 16 bs) (All-take Byte 16 bs (All-tail Byte t bs small)) (length-take-le 16 bs h.long)
      ∙ ap (λ (n : ℕ). n ∷ take 16 bs) (sym h.tag)
      ∙ sym (ap (λ (n : ℕ). take n (t ∷ bs)) s)
]

-- ---- what is written is read again

module _ (v i o m : ℕ) (hs : List ℕ) (w : ℕ) (lv : v < 2 ^ 32) (li : i < 2 ^ 32) (lo : o < 2 ^ 32) (lw : w < 2 ^ 64) (is : members_from (is_bit w) 0 64 ≡ hs) where
  pub word : word_of hs ≡ w
  word = ap word_of (sym is) ∙ word_of-members w lw

  pub held-read : first_record (record_bytes (entry.Held v i o m hs)) ≡ Some (entry.Held v i o m hs)
  held-read = held-first 0x43 (drop 1 (record_bytes (entry.Held v i o m hs))) (entry.Held v i o m hs) (record {
    tag = refl;
    long = omega arith;
    is = sym (
        ap (λ (n : ℕ). entry.Held n (from_le_bytes w32 (to_le_bytes w32 i)) (from_le_bytes w32 (to_le_bytes w32 o)) m (members_from (is_bit (from_le_bytes w64 (to_le_bytes w64 (word_of hs)))) 0 64)) (from_le_bytes-to_le_bytes_4 v lv)
        ∙ ap (λ (n : ℕ). entry.Held v n (from_le_bytes w32 (to_le_bytes w32 o)) m (members_from (is_bit (from_le_bytes w64 (to_le_bytes w64 (word_of hs)))) 0 64)) (from_le_bytes-to_le_bytes_4 i li)
        ∙ ap (λ (n : ℕ). entry.Held v i n m (members_from (is_bit (from_le_bytes w64 (to_le_bytes w64 (word_of hs)))) 0 64)) (from_le_bytes-to_le_bytes_4 o lo)
        ∙ ap (λ (n : ℕ). entry.Held v i o m (members_from (is_bit (from_le_bytes w64 (to_le_bytes w64 n))) 0 64)) word
        ∙ ap (λ (n : ℕ). entry.Held v i o m (members_from (is_bit n) 0 64)) (from_le_bytes-to_le_bytes_8 w lw)
        ∙ ap (entry.Held v i o m) is);
  })

abbrev pub kept : ℕ → ℕ → ℕ → ℕ → LogRecord
kept n s d w = entry.Kept (record { number = n; edge = record { src = s; dst = d; weight = w } })

module _ (n s d w : ℕ) (ln : n < 2 ^ 32) (ls : s < 2 ^ 32) (ld : d < 2 ^ 32) (lw : w < 2 ^ 32) where
  pub kept-read : first_record (record_bytes (kept n s d w)) ≡ Some (kept n s d w)
  kept-read = kept-first 0x45 (drop 1 (record_bytes (kept n s d w))) (kept n s d w) (record {
    tag = refl;
    long = omega arith;
    is = sym (
        ap (λ (k : ℕ). kept k (from_le_bytes w32 (to_le_bytes w32 s)) (from_le_bytes w32 (to_le_bytes w32 d)) (from_le_bytes w32 (to_le_bytes w32 w))) (from_le_bytes-to_le_bytes_4 n ln)
        ∙ ap (λ (k : ℕ). kept n k (from_le_bytes w32 (to_le_bytes w32 d)) (from_le_bytes w32 (to_le_bytes w32 w))) (from_le_bytes-to_le_bytes_4 s ls)
        ∙ ap (λ (k : ℕ). kept n s k (from_le_bytes w32 (to_le_bytes w32 w))) (from_le_bytes-to_le_bytes_4 d ld)
        ∙ ap (λ (k : ℕ). kept n s d k) (from_le_bytes-to_le_bytes_4 w lw));
  })

-- ---- its bytes are bytes

byte-small : (i n : ℕ) → byte_at i n < 256
byte-small zero n = mod-lt n (omega arith)
byte-small (suc i) n = mod-lt (n / 256 ^ suc i) (omega arith)

low-small : (i k n : ℕ) → Bytes (bytes_low_first i k n)
low-small i zero n = λ j d l. absurd (omega arith)
low-small i (suc k) n = All-cons Byte (byte_at i n) (bytes_low_first (suc i) k n) (byte-small i n) (low-small (suc i) k n)

pub record-small : (r : LogRecord) → ((v i o m : ℕ) (hs : List ℕ) → r ≡ entry.Held v i o m hs → m < 256) → Bytes (record_bytes r)
record-small (entry.Held v i o m hs) h =
    All-cons Byte 0x43 (drop 1 (record_bytes (entry.Held v i o m hs))) (omega arith)
    (All-append Byte (to_le_bytes w32 v) (to_le_bytes w32 i ++ to_le_bytes w32 o ++ m ∷ to_le_bytes w64 (word_of hs)) (low-small 0 4 v)
    (All-append Byte (to_le_bytes w32 i) (to_le_bytes w32 o ++ m ∷ to_le_bytes w64 (word_of hs)) (low-small 0 4 i)
    (All-append Byte (to_le_bytes w32 o) (m ∷ to_le_bytes w64 (word_of hs)) (low-small 0 4 o)
    (All-cons Byte m (to_le_bytes w64 (word_of hs)) (h v i o m hs refl) (low-small 0 8 (word_of hs))))))
record-small (entry.Kept a) h =
    All-cons Byte 0x45 (drop 1 (record_bytes (entry.Kept a))) (omega arith)
    (All-append Byte (to_le_bytes w32 a.number) (to_le_bytes w32 a.edge.src ++ to_le_bytes w32 a.edge.dst ++ to_le_bytes w32 a.edge.weight) (low-small 0 4 a.number)
    (All-append Byte (to_le_bytes w32 a.edge.src) (to_le_bytes w32 a.edge.dst ++ to_le_bytes w32 a.edge.weight) (low-small 0 4 a.edge.src)
    (All-append Byte (to_le_bytes w32 a.edge.dst) (to_le_bytes w32 a.edge.weight) (low-small 0 4 a.edge.dst) (low-small 0 4 a.edge.weight))))

-- ---- a record's bytes, one by one

pub kept-literal : (n s d w : ℕ) (ns ss ds ws : List ℕ) → ns ≡ to_le_bytes w32 n → ss ≡ to_le_bytes w32 s → ds ≡ to_le_bytes w32 d → ws ≡ to_le_bytes w32 w
    → 0x45 ∷ slice_index ns 0 ∷ slice_index ns 1 ∷ slice_index ns 2 ∷ slice_index ns 3 ∷ slice_index ss 0 ∷ slice_index ss 1 ∷ slice_index ss 2 ∷ slice_index ss 3 ∷ slice_index ds 0 ∷ slice_index ds 1 ∷ slice_index ds 2 ∷ slice_index ds 3 ∷ slice_index ws 0 ∷ slice_index ws 1 ∷ slice_index ws 2 ∷ slice_index ws 3 ∷ []
    ≡ record_bytes (kept n s d w)
kept-literal n s d w ns ss ds ws en es ed ew = λ i. 0x45 ∷ slice_index (en i) 0 ∷ slice_index (en i) 1 ∷ slice_index (en i) 2 ∷ slice_index (en i) 3 ∷ slice_index (es i) 0 ∷ slice_index (es i) 1 ∷ slice_index (es i) 2 ∷ slice_index (es i) 3 ∷ slice_index (ed i) 0 ∷ slice_index (ed i) 1 ∷ slice_index (ed i) 2 ∷ slice_index (ed i) 3 ∷ slice_index (ew i) 0 ∷ slice_index (ew i) 1 ∷ slice_index (ew i) 2 ∷ slice_index (ew i) 3 ∷ []

pub held-literal : (v i o m : ℕ) (hs vs is os ws : List ℕ) → vs ≡ to_le_bytes w32 v → is ≡ to_le_bytes w32 i → os ≡ to_le_bytes w32 o → ws ≡ to_le_bytes w64 (word_of hs)
    → 0x43 ∷ slice_index vs 0 ∷ slice_index vs 1 ∷ slice_index vs 2 ∷ slice_index vs 3 ∷ slice_index is 0 ∷ slice_index is 1 ∷ slice_index is 2 ∷ slice_index is 3 ∷ slice_index os 0 ∷ slice_index os 1 ∷ slice_index os 2 ∷ slice_index os 3 ∷ m ∷ slice_index ws 0 ∷ slice_index ws 1 ∷ slice_index ws 2 ∷ slice_index ws 3 ∷ slice_index ws 4 ∷ slice_index ws 5 ∷ slice_index ws 6 ∷ slice_index ws 7 ∷ []
    ≡ record_bytes (entry.Held v i o m hs)
held-literal v i o m hs vs is os ws ev ei eo ew = λ j. 0x43 ∷ slice_index (ev j) 0 ∷ slice_index (ev j) 1 ∷ slice_index (ev j) 2 ∷ slice_index (ev j) 3 ∷ slice_index (ei j) 0 ∷ slice_index (ei j) 1 ∷ slice_index (ei j) 2 ∷ slice_index (ei j) 3 ∷ slice_index (eo j) 0 ∷ slice_index (eo j) 1 ∷ slice_index (eo j) 2 ∷ slice_index (eo j) 3 ∷ m ∷ slice_index (ew j) 0 ∷ slice_index (ew j) 1 ∷ slice_index (ew j) 2 ∷ slice_index (ew j) 3 ∷ slice_index (ew j) 4 ∷ slice_index (ew j) 5 ∷ slice_index (ew j) 6 ∷ slice_index (ew j) 7 ∷ []
