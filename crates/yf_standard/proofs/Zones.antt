-- The part of a text that productions read, and the relations of block scalars and documents in it.
use Rattle.std.proofs.Common.{◌≡◌, ℕ, ◌≤◌, ℤ, negsuc, Bool, true, false, List, length, refl, sym, subst, ◌⊎◌, inl, inr, arith, ◌+◌, ◌∙◌}
use Rattle.std.specs.Str.{IsUtf8}
use Rattle.yf_chars.specs.declared.context.Ctx.TheVariants.{BlockIn}
use Rattle.yf_comments.specs.Comments.{CommentLine, LineEnd}
use Rattle.yf_standard.specs.Notation.Form.{s-l+block-node}
use Rattle.yf_standard.specs.Rules.{read}
use Rattle.yf_standard.specs.Literal.{Derived}
use Rattle.yf_standard.proofs.Reading.{Star}
use Rattle.yf_standard.proofs.Basics.{CharOf, SomeOf, char_is}
use Rattle.yf_grammar.specs.Productions.BlockScalar.{BlockScalar}
use Rattle.yf_lines.specs.Basic.{Clear}
use Rattle.yf_lines.proofs.BasicLemmas.{clear_front, clear_back}
use Rattle.yf_block_scalar.specs.Header.{Style}
use Rattle.yf_block_scalar.specs.Header.Style.{literal_sign, folded_sign}
use Rattle.yf_stream.specs.Stream.{Prefixes, Documents, Stream}
use Rattle.yf_standard.specs.Characters.{c-literal, c-folded, c-byte-order-mark}
use Rattle.yf_standard.specs.Notation.{Chomping}
use Rattle.yf_standard.proofs.ScalarsRead.{AtWidth, ContentRead}
use Rattle.yf_standard.proofs.ScalarsWhole.{HeaderPart, scalar_read}
use Rattle.yf_standard.proofs.PartsRead.{star_map, Three, round_read}
use Rattle.yf_standard.proofs.StreamsRead.{SomeRoot, SomeExplicit, Suffix, Any, Round, explicit_node_read, stream_read}

-- the part of a text in which productions are read: a document's node, which covers no forbidden line, or all of the
-- text
pub record Zone (t : List ℕ) (s : Bool) : Type 0 where
  pub utf : IsUtf8 t
  pub low : ℕ
  pub high : ℕ
  pub clear : s ≡ true → Clear t low high
  pub root : s ≡ false → (e i j : ℕ) → Derived (read t) t e (s-l+block-node (negsuc 0) BlockIn) i j → Clear t i j → SomeRoot t e i j

pub clear_within : {t : List ℕ} {i j : ℕ} (z : Zone t true) → z.low ≤ i → j ≤ z.high → Clear t i j
clear_within z a b = clear_front b (clear_back a (z.clear refl))

-- [170] and [174]
pub literal_scalar : (t : List ℕ) (z : Zone t true) (n : ℤ) (c : Chomping) (i j : ℕ) → j ≤ z.high
    → (k : ℤ) × ((a : ℕ) × (CharOf t c-literal i a × ((b : ℕ) × (HeaderPart t n c k a b × (AtWidth (ContentRead t) k b j × (z.low ≤ b)))))) → SomeOf (BlockScalar t n) i j
unfolding c-literal
literal_scalar t z n c i j b d =
    let s = char_is t i d.1.0 124 (omega arith) d.1.1.0 in
    scalar_read t z.utf (z.clear refl) n false c i d.1.0 j (subst (λ w. Style t i w false) s.1 (literal_sign s.0)) b (d.0, d.1.1.1)

pub folded_scalar : (t : List ℕ) (z : Zone t true) (n : ℤ) (c : Chomping) (i j : ℕ) → j ≤ z.high
    → (k : ℤ) × ((a : ℕ) × (CharOf t c-folded i a × ((b : ℕ) × (HeaderPart t n c k a b × (AtWidth (ContentRead t) k b j × (z.low ≤ b)))))) → SomeOf (BlockScalar t n) i j
unfolding c-folded
folded_scalar t z n c i j b d =
    let s = char_is t i d.1.0 62 (omega arith) d.1.1.0 in
    scalar_read t z.utf (z.clear refl) n true c i d.1.0 j (subst (λ w. Style t i w true) s.1 (folded_sign s.0)) b (d.0, d.1.1.1)

-- [208] and [211]
pub explicit_document_read : (t : List ℕ) (e i j : ℕ) → (k : ℕ) × (Three t 45 i k × (SomeRoot t e k j ⊎ ((h : ℕ) × ((k ≡ h) × SomeOf (LineEnd t) h j)))) → SomeExplicit t e i j
explicit_document_read t e i j d = explicit_node_read t e i j d.1.0.0 (go d.1.1) where
  go : SomeRoot t e d.0 j ⊎ ((h : ℕ) × ((d.0 ≡ h) × SomeOf (LineEnd t) h j)) → SomeRoot t e (i + 3) j ⊎ ((h : ℕ) × ((i + 3 ≡ h) × SomeOf (LineEnd t) h j))
  go (inl r) = inl (subst (λ w. SomeRoot t e w j) (sym d.1.0.1) r)
  go (inr r) = inr (r.0, (d.1.0.1 ∙ r.1.0, r.1.1))

abbrev RoundForm : List ℕ → ℕ → ℕ → ℕ → Type 0
RoundForm t e i j =
    ((k : ℕ) × (((h : ℕ) × (Suffix t i h × Star (Suffix t) h k)) × ((m : ℕ) × (Star (SomeOf (Prefixes t)) k m × ((m ≡ j) ⊎ Any t e m j)))))
    ⊎ (CharOf t c-byte-order-mark i j ⊎ (SomeOf (CommentLine t) i j ⊎ SomeExplicit t e i j))

pub stream_of : (t : List ℕ) → IsUtf8 t → (e i j : ℕ) → i ≡ 0 → j ≡ length t
    → (k : ℕ) × (Star (SomeOf (Prefixes t)) i k × ((m : ℕ) × (((k ≡ m) ⊎ Any t e k m) × Star (RoundForm t e) m j))) → (h : ℕ) × ((x : Documents) × (Stream t h x × (h ≤ e)))
stream_of t u e i j p q d =
    stream_read t e u j q (d.0, (subst (λ w. Star (SomeOf (Prefixes t)) w d.0) p d.1.0, (d.1.1.0, (d.1.1.1.0, star_map {R = RoundForm t e} {S = Round t e} (round_read t e) d.1.1.1.1))))
