-- A part of a class has one end.
use Rattle.std.proofs.Common.{◌≡◌, ℕ, ◌+◌, ◌<◌, ◌≤◌, List, [], ◌∷◌, ◌++◌, length, refl, sym, subst, ◌∙◌, ap, arith, add-one, append_assoc}
use Rattle.std.proofs.lemmas.List.{append-nil}
use Rattle.yf_excludes.specs.declared.atom.ByteRange.{ByteRange}
use Rattle.yf_excludes.specs.Classes.{ClassByte, plain_byte, escaped_byte, IsRangeSign, MemberAt, one_byte, byte_range, Closes, MembersAt, class_ends, class_goes_on}

pub byte_end : {t : List ℕ} {i b c j k : ℕ} → ClassByte t i b j → ClassByte t i c k → j ≡ k
byte_end (plain_byte _ _ _ _ e) (plain_byte _ _ _ _ f) = e ∙ sym f
byte_end (escaped_byte _ _ _ e) (escaped_byte _ _ _ f) = e ∙ sym f
byte_end (plain_byte _ is other _ _) (escaped_byte _ at _ _) = absurd (other (sym is ∙ at))
byte_end (escaped_byte _ at _ _) (plain_byte _ is other _ _) = absurd (other (sym is ∙ at))

pub member_end : {t : List ℕ} {i j k : ℕ} {r s : ByteRange} → MemberAt t i r j → MemberAt t i s k → j ≡ k
member_end (one_byte a _ _) (one_byte b _ _) = byte_end a b
member_end {t} (one_byte a never _) (byte_range b closing _) = absurd
    (never (subst (λ z. IsRangeSign t z) (sym (byte_end a b)) closing))
member_end {t} (byte_range b closing _) (one_byte a never _) = absurd
    (never (subst (λ z. IsRangeSign t z) (byte_end b a) closing))
member_end {t} {k = k} {s = s} (byte_range {h} a _ c) (byte_range {h = g} b _ d) =
    byte_end c (subst (λ z. ClassByte t (z + 1) s.last k) (sym (byte_end a b)) d)

-- No member begins here: either there is no byte, or the sign of a range has no byte after it.
pub no_first : {t : List ℕ} {i j : ℕ} {r : ByteRange} → ((b k : ℕ) → ClassByte t i b k → ⊥) → MemberAt t i r j → ⊥
no_first {j = j} {r = r} never (one_byte a _ _) = never r.first j a
no_first {r = r} never (byte_range {h} a _ _) = never r.first h a

pub no_last_byte : {t : List ℕ} {i b h j : ℕ} {r : ByteRange} → ClassByte t i b h → IsRangeSign t h
    → ((c k : ℕ) → ClassByte t (h + 1) c k → ⊥)
    → MemberAt t i r j → ⊥
no_last_byte {t} first sign never (one_byte a unsigned _) = unsigned
    (subst (λ z. IsRangeSign t z) (byte_end first a) sign)
no_last_byte {t} {j = j} {r = r} first sign never (byte_range a _ d) =
    never r.last j (subst (λ z. ClassByte t (z + 1) r.last j) (byte_end a first) d)

pub members_end : {t : List ℕ} {start i j k : ℕ} {rs ss : List ByteRange} → MembersAt t start i rs j
    → MembersAt t start i ss k → j ≡ k
members_end (class_ends _ e) (class_ends _ f) = e ∙ sym f
members_end (class_ends closing _) (class_goes_on never _ _) = absurd (never closing)
members_end (class_goes_on never _ _) (class_ends closing _) = absurd (never closing)
members_end {t} {start} {k = k} (class_goes_on _ a rest) (class_goes_on {rs = ss} _ b other) =
    members_end rest (subst (λ z. MembersAt t start z ss k) (sym (member_end a b)) other)

-- the rest of the class from an offset on, if it can be read
pub record ReadOn (t : List ℕ) (start i : ℕ) : Type 0 where
  pub ranges : List ByteRange
  pub end : ℕ
  pub read : MembersAt t start i ranges end

-- the members read so far
pub record MembersSoFar (t : List ℕ) (start : ℕ) (ranges : List ByteRange) (i : ℕ) : Type 0 where
  pub moved : start ≤ i
  pub forth : (rs : List ByteRange) (j : ℕ) → MembersAt t start i rs j → MembersAt t start start (ranges ++ rs) j
  pub back : (rs : List ByteRange) (j : ℕ) → MembersAt t start start rs j → ReadOn t start i

pub members_begin : (t : List ℕ) (start : ℕ) (ranges : List ByteRange) → ranges ≡ [] → MembersSoFar t start ranges start
members_begin t start ranges e = subst (λ z. MembersSoFar t start z start) (sym e)
    (record { moved = omega arith; forth = λ rs j m. m; back = λ rs j m. record { ranges = rs; end = j; read = m } })

after_member_at : {t : List ℕ} {start i h j : ℕ} {r : ByteRange} {rs : List ByteRange}
    → (Closes t start i → ⊥) → MemberAt t i r h → MembersAt t start i rs j → ReadOn t start h
after_member_at never m (class_ends closing _) = absurd (never closing)
after_member_at {t} {start} {j = j} never m (class_goes_on {rs = ss} _ n rest) =
    record { ranges = ss; end = j; read = subst (λ z. MembersAt t start z ss j) (member_end n m) rest }

no_member_at : {t : List ℕ} {start i j : ℕ} {rs : List ByteRange}
    → (Closes t start i → ⊥) → ((r : ByteRange) (k : ℕ) → MemberAt t i r k → ⊥) → MembersAt t start i rs j → ⊥
no_member_at never none (class_ends closing _) = never closing
no_member_at never none (class_goes_on {h = h} {r = r} _ m _) = none r h m

pub members_more : {t : List ℕ} {start i h : ℕ} {r : ByteRange} {ranges more : List ByteRange}
    → MembersSoFar t start ranges i
    → (Closes t start i → ⊥) → MemberAt t i r h → i < h → more ≡ ranges ++ r ∷ [] → MembersSoFar t start more h
members_more {t} {start} {i} {h} {r} {ranges} s never m ahead e = subst (λ z. MembersSoFar t start z h) (sym e)
    (record {
      moved = let before : start ≤ i = s.moved in omega arith;
      forth = λ rs j rest. subst (λ z. MembersAt t start start z j) (sym (append_assoc ranges (r ∷ []) rs))
          (s.forth (r ∷ rs) j (class_goes_on never m rest));
      back = λ rs j all. let on : ReadOn t start i = s.back rs j all in after_member_at never m on.read;
    })

pub members_done : {t : List ℕ} {start i : ℕ} {ranges : List ByteRange}
    → MembersSoFar t start ranges i → Closes t start i → MembersAt t start start ranges (i + 1)
members_done {t} {start} {i} {ranges} s closing =
    subst (λ z. MembersAt t start start z (i + 1)) (append-nil ranges) (s.forth [] (i + 1) (class_ends closing refl))

pub members_none : {t : List ℕ} {start i : ℕ} {ranges : List ByteRange} → MembersSoFar t start ranges i
    → (Closes t start i → ⊥)
    → ((r : ByteRange) (k : ℕ) → MemberAt t i r k → ⊥) → (rs : List ByteRange) (j : ℕ)
    → MembersAt t start start rs j → ⊥
members_none {t} {start} {i} s never none rs j all = let on : ReadOn t start i = s.back rs j all in
    no_member_at never none on.read
