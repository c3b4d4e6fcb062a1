-- Keys that lie among bytes one after another.
use Rattle.std.proofs.Common.{◌≡◌, ◌∙◌, ℕ, ℤ, ◌+◌, ◌-◌, ◌<◌, ◌≤◌, ◌^◌, List, [], ◌∷◌, ◌++◌, length, drop, refl, ap, arith, inl, inr, subst, sym, append_assoc, append-nil}
use Rattle.std.specs.Prelude.{All, Bool, Err, FitsSigned, Ok, OnErr, Result, cond}
use Rattle.std.specs.Int.{cast_signed}
use Rattle.std.proofs.lemmas.Bool.{cases_lt, le-ltb, lt-ltb}
use Rattle.std.proofs.lemmas.Nat.{from_le_bytes-to_le_bytes_4}
use Rattle.std.proofs.lemmas.List.{map-append}
use Rattle.std.proofs.lemmas.List.Elements.{All-cons, All-head, All-nil, All-push, All-tail, All-weaker}
use Rattle.std.proofs.Math.Seq.{drop-append_seam}
use mir.Syntax.{w64}
use Rattle.key_orders.specs.declared.columns.Value.{Value}
use Rattle.key_orders.specs.declared.columns.Value.TheVariants.{Int}
use Rattle.key_storage.specs.RowLists.{LiesAt, LiesFrom, NUMBERS, bytes_at, keys_read, number_bytes}
use Rattle.key_storage.specs.Stored.{IsStorable, key_read, stored_key, value_read}
use Rattle.key_storage.proofs.StoredLaws.{key_back}

-- A number as a key

abbrev pub one : ℤ → List Value
one z = Int z ∷ []

pub one_storable : (z : ℤ) → FitsSigned w64 z → All IsStorable (one z)
one_storable z fits = All-cons IsStorable (Int z) [] fits (All-nil IsStorable)

pub number_back : (z : ℤ) (rest : List ℕ) → FitsSigned w64 z → key_read (stored_key (one z) ++ rest) ≡ one z
number_back z rest fits = key_back (one z) rest (one_storable z fits)

-- A key at a place

pub read_there : (bytes : List ℕ) (at : ℕ) (lies : LiesAt bytes at) → key_read (drop at bytes) ≡ lies.key
read_there bytes at lies =
    (λ i. key_read (drop (sym lies.at_is i) (lies.bytes i)))
    ∙ (ap key_read (drop-append_seam lies.before (stored_key lies.key ++ lies.rest)) ∙ key_back lies.key lies.rest lies.storable)

abbrev pub lies_more : (bytes more : List ℕ) (at : ℕ) → LiesAt bytes at → LiesAt (bytes ++ more) at
lies_more bytes more at lies = record {
  before = lies.before;
  key = lies.key;
  rest = lies.rest ++ more;
  storable = lies.storable;
  at_is = lies.at_is;
  bytes =
      ap (λ w. w ++ more) lies.bytes
      ∙ (append_assoc lies.before (stored_key lies.key ++ lies.rest) more
      ∙ ap (λ w. lies.before ++ w) (append_assoc (stored_key lies.key) lies.rest more));
}

abbrev pub lies_last : (bytes : List ℕ) (key : List Value) → All IsStorable key → LiesAt (bytes ++ stored_key key) (length bytes)
lies_last bytes key storable = record {
  before = bytes;
  key = key;
  rest = [];
  storable = storable;
  at_is = refl;
  bytes = ap (λ w. bytes ++ w) (sym (append-nil (stored_key key)));
}

-- A number in place of a place

pub in_bytes : (bytes : List ℕ) (start : ℕ) → start < NUMBERS → bytes_at bytes start ≡ drop start bytes
in_bytes bytes start low = ap (λ (b : Bool). cond b (drop start bytes) (number_bytes (start - NUMBERS))) (lt-ltb start NUMBERS low)

pub as_number : (bytes : List ℕ) (start : ℕ) → NUMBERS ≤ start → bytes_at bytes start ≡ number_bytes (start - NUMBERS)
as_number bytes start high = ap (λ (b : Bool). cond b (drop start bytes) (number_bytes (start - NUMBERS))) (le-ltb start NUMBERS high)

pub number_read : (n : ℕ) → n < 2 ^ 32 → key_read (number_bytes n) ≡ Int (cast_signed w64 n) ∷ []
unfolding key_read value_read
number_read n low = ap (λ (m : ℕ). one (cast_signed w64 m)) (from_le_bytes-to_le_bytes_4 n low)

-- Keys one after another

pub still_lie : (starts bytes more : List ℕ) → All (LiesFrom bytes) starts → All (LiesFrom (bytes ++ more)) starts
still_lie starts bytes more = All-weaker (LiesFrom bytes) (LiesFrom (bytes ++ more)) (λ start lies low. lies_more bytes more start (lies low)) starts

still_there : (bytes more : List ℕ) (start : ℕ) → LiesFrom bytes start → key_read (bytes_at (bytes ++ more) start) ≡ key_read (bytes_at bytes start)
still_there bytes more start lies = elim (cases_lt start NUMBERS) [
  | inl low ↦
      ap key_read (in_bytes (bytes ++ more) start low)
      ∙ (read_there (bytes ++ more) start (lies_more bytes more start (lies low)) ∙ sym (read_there bytes start (lies low)))
      ∙ ap key_read (sym (in_bytes bytes start low))
  | inr high ↦ ap key_read (as_number (bytes ++ more) start high ∙ sym (as_number bytes start high))
]

pub still_read : (starts bytes more : List ℕ) → All (LiesFrom bytes) starts → keys_read starts (bytes ++ more) ≡ keys_read starts bytes
still_read [] bytes more lie = refl
still_read (start ∷ starts) bytes more lie =
    (λ i. still_there bytes more start (All-head (LiesFrom bytes) start starts lie) i ∷ still_read starts bytes more (All-tail (LiesFrom bytes) start starts lie) i)

pub one_lies : (starts bytes : List ℕ) (at : ℕ) (key : List Value) → All (LiesFrom bytes) starts → at ≡ length bytes → All IsStorable key → All (LiesFrom (bytes ++ stored_key key)) (starts ++ at ∷ [])
one_lies starts bytes at key lie is storable =
    All-push (LiesFrom (bytes ++ stored_key key)) starts at (still_lie starts bytes (stored_key key) lie)
    (λ low. subst (LiesAt (bytes ++ stored_key key)) (sym is) (lies_last bytes key storable))

pub one_read : (starts bytes : List ℕ) (at : ℕ) (key : List Value) → All (LiesFrom bytes) starts → at ≡ length bytes → at < NUMBERS → All IsStorable key → keys_read (starts ++ at ∷ []) (bytes ++ stored_key key) ≡ keys_read starts bytes ++ key ∷ []
one_read starts bytes at key lie is low storable =
    map-append (λ start. key_read (bytes_at (bytes ++ stored_key key) start)) starts (at ∷ [])
    ∙ (λ i. still_read starts bytes (stored_key key) lie i ++ here i ∷ [])
  where
    here : key_read (bytes_at (bytes ++ stored_key key) at) ≡ key
    here =
        ap key_read (in_bytes (bytes ++ stored_key key) at low)
        ∙ ap (λ k. key_read (drop k (bytes ++ stored_key key))) is ∙ read_there (bytes ++ stored_key key) (length bytes) (lies_last bytes key storable)

pub number_row : (starts bytes : List ℕ) (n : ℕ) (key : List Value) → key_read (number_bytes n) ≡ key → keys_read (starts ++ (NUMBERS + n) ∷ []) bytes ≡ keys_read starts bytes ++ key ∷ []
number_row starts bytes n key is =
    map-append (λ start. key_read (bytes_at bytes start)) starts ((NUMBERS + n) ∷ [])
    ∙ ap (λ k. keys_read starts bytes ++ k ∷ []) here
  where
    here : key_read (bytes_at bytes (NUMBERS + n)) ≡ key
    here =
        let back : NUMBERS + n - NUMBERS ≡ n = omega arith in
        ap key_read (as_number bytes (NUMBERS + n) (omega arith) ∙ ap number_bytes back) ∙ is

-- what is so is so after an error
pub whatever : {T E : Type 0} (r : Result T E) (P : Type 0) → P → OnErr r P
whatever (Ok x) P p = tt
whatever (Err e) P p = p
