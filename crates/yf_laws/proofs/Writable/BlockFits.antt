-- Block scalars that the house style leaves as they are can be written: the lines that were read are those of their
-- text.
use Rattle.std.proofs.Common.{◌≡◌, ◌≢◌, ℕ, zero, suc, ◌+◌, ◌-◌, ◌<◌, ℤ, Bool, true, false, true≢false, ◌&&◌, List, [], ◌∷◌, ◌++◌, length, get_or, refl, sym, ap, ◌∙◌, subst, arith, append-nil}
use Rattle.std.specs.Prelude.{◌==◌, ◌||◌, if◌then◌else◌}
use Rattle.std.specs.List.{list_all}
use Rattle.std.specs.Str.{IsUtf8, NonePass}
use Rattle.std.proofs.Math.Bool.{and-false}
use Rattle.std.proofs.lemmas.Bool.{ne_eqb}
use Rattle.std.proofs.lemmas.List.{length-append, length-replicate}
use Rattle.std.proofs.lemmas.Str.{NoCharPasses-byte}
use Rattle.yf_chars.specs.Class.{is_nb_char, is_printable, is_between, is_break_char, is_white}
use Rattle.yf_lines.specs.LineText.{AllNb, IsLineText}
use Rattle.yf_block_scalar.specs.Body.{Body, BodyValue}
use Rattle.yf_block_scalar.specs.Content.{content_of, ending, feeds, folded, folded_after, joint, literal, literal_after, lone_tail}
use Rattle.yf_block_scalar.specs.Written.{AreLineTexts, EndsWithContent, StartsUnspaced}
use Rattle.yf_block_scalar.specs.declared.header.Chomp.{Chomp}
use Rattle.yf_block_scalar.specs.declared.header.Chomp.TheVariants.{Strip, Clip, Keep}
use Rattle.yf_block_scalar.specs.declared.header.Header.{Header}
use Rattle.yf_block_scalar.proofs.ScalarLemmas.{body_scalar}
use Rattle.yf_events.specs.declared.event.ScalarStyle.TheVariants.{Literal, Folded}
use Rattle.yf_grammar.specs.Productions.BlockScalar.{kept_lines, style_of}
use Rattle.yf_forms.specs.Nodes.BlockLines.{begins_with_space, content_lines, cut_at_feeds, final_feeds, into_first, is_feed, without_final_feeds}
use Rattle.yf_laws.specs.Nodes.BlockValues.{chomp_of, header_of}
use Rattle.yf_laws.specs.Layouts.ReadableTrees.{FitScalar}
use Rattle.yf_forms.specs.Nodes.ScalarStyles.{has_block_content}

-- Lines hold no line feeds.

abbrev NoFeed : List ℕ → Type 0
NoFeed [] = Unit {0}
NoFeed (b ∷ bs) = (b ≢ 10) × NoFeed bs

abbrev AreLines : List (List ℕ) → Type 0
AreLines [] = Unit {0}
AreLines (x ∷ ls) = NoFeed x × AreLines ls

nb_no_feed : (c : ℕ) → is_nb_char c ≡ true → is_feed c ≡ false
unfolding is_nb_char is_printable is_between is_break_char
nb_no_feed c e = ne_eqb c 10 (λ q. true≢false (sym e ∙ ap is_nb_char q))

none_pass : (cs : List ℕ) → AllNb cs → NonePass is_feed cs
none_pass [] a = tt
none_pass (c ∷ cs) a = (nb_no_feed c a.0, none_pass cs a.1)

each_other : (x : List ℕ) → ((k : ℕ) → k < length x → get_or x k 0 ≢ 10) → NoFeed x
each_other [] f = tt
each_other (b ∷ x) f = (f 0 (omega arith), each_other x (λ k l. f (suc k) (omega (arith, l))))

no_feed : {x : List ℕ} → IsLineText x → NoFeed x
no_feed {x} a = each_other x other where
  other : (k : ℕ) → k < length x → get_or x k 0 ≢ 10
  other k l e =
      let fails : is_feed (get_or x k 0) ≡ false = NoCharPasses-byte is_feed x k (a.chars, a.bytes, none_pass a.chars a.each) l (omega (arith, e)) in
      true≢false (sym (ap is_feed e) ∙ fails)

are_lines : (ls : List (List ℕ)) → AreLineTexts ls → AreLines ls
are_lines [] a = tt
are_lines (x ∷ ls) a = (no_feed a.0, are_lines ls a.1)

-- Texts that don't end with a line feed.

abbrev EndsSolid : List ℕ → Type 0
EndsSolid [] = ⊥
EndsSolid (b ∷ []) = b ≢ 10
EndsSolid (b ∷ c ∷ bs) = EndsSolid (c ∷ bs)

solid_cons : (b : ℕ) (w : List ℕ) → EndsSolid w → EndsSolid (b ∷ w)
solid_cons b [] e = absurd e
solid_cons b (c ∷ w) e = e

solid_after : (v w : List ℕ) → EndsSolid w → EndsSolid (v ++ w)
solid_after [] w e = e
solid_after (b ∷ v) w e = solid_cons b (v ++ w) (solid_after v w e)

solid_line : (b : ℕ) (x : List ℕ) → NoFeed (b ∷ x) → EndsSolid (b ∷ x)
solid_line b [] f = f.0
solid_line b (c ∷ x) f = solid_line c x f.1

solid_alone : (w : List ℕ) → EndsSolid w → EndsSolid (w ++ [])
solid_alone w e = subst (λ v. EndsSolid v) (sym (append-nil w)) e

not_all : (w z : List ℕ) → EndsSolid w → list_all is_feed (w ++ z) ≡ false
not_all [] z e = absurd e
not_all (b ∷ []) z e = ap (λ v. v && list_all is_feed z) (ne_eqb b 10 e)
not_all (b ∷ c ∷ w) z e = ap (λ v. is_feed b && v) (not_all (c ∷ w) z e) ∙ and-false (is_feed b)

all_feeds : (n : ℕ) → list_all is_feed (feeds n) ≡ true
all_feeds zero = refl
all_feeds (suc n) = all_feeds n

without_feeds : (n : ℕ) → without_final_feeds (feeds n) ≡ []
without_feeds zero = refl
without_feeds (suc n) = ap (λ v. if v then [] else 10 ∷ without_final_feeds (feeds n)) (all_feeds (suc n))

cut_back : (w : List ℕ) (n : ℕ) → EndsSolid w → without_final_feeds (w ++ feeds n) ≡ w
cut_back [] n e = absurd e
cut_back (b ∷ []) n e =
    ap (λ v. if v then [] else b ∷ without_final_feeds (feeds n)) (not_all (b ∷ []) (feeds n) e) ∙ ap (λ v. b ∷ v) (without_feeds n)
cut_back (b ∷ c ∷ w) n e =
    ap (λ v. if v then [] else b ∷ without_final_feeds ((c ∷ w) ++ feeds n)) (not_all (b ∷ c ∷ w) (feeds n) e)
    ∙ ap (λ v. b ∷ v) (cut_back (c ∷ w) n e)

count_feeds : (w : List ℕ) (n : ℕ) → EndsSolid w → final_feeds (w ++ feeds n) ≡ n
count_feeds w n e =
    let short : length (without_final_feeds (w ++ feeds n)) ≡ length w = ap length (cut_back w n e) in
    let many : length (feeds n) ≡ n = length-replicate n 10 in
    omega (arith, short, length-append w (feeds n), many)

-- Literal lines.

cut_line : (x rest : List ℕ) (ls : List (List ℕ)) → NoFeed x → cut_at_feeds rest ≡ [] ∷ ls → cut_at_feeds (x ++ rest) ≡ x ∷ ls
cut_line [] rest ls f e = e
cut_line (b ∷ x) rest ls f e =
    ap (λ v. if v then [] ∷ cut_at_feeds (x ++ rest) else into_first b (cut_at_feeds (x ++ rest))) (ne_eqb b 10 f.0)
    ∙ ap (into_first b) (cut_line x rest ls f.1 e)

cut_after : (ls : List (List ℕ)) → AreLines ls → cut_at_feeds (literal_after ls) ≡ [] ∷ ls
cut_after [] a = refl
cut_after (x ∷ ls) a = ap (λ v. [] ∷ v) (cut_line x (literal_after ls) ls a.0 (cut_after ls a.1))

literal_solid : (x : List ℕ) (ls : List (List ℕ)) → AreLines (x ∷ ls) → EndsWithContent (x ∷ ls) → EndsSolid (x ++ literal_after ls)
literal_solid [] [] a e = absurd (e refl)
literal_solid (b ∷ x) [] a e = solid_alone (b ∷ x) (solid_line b x a.0)
literal_solid x (y ∷ ls) a e = solid_after x (literal_after (y ∷ ls)) (solid_cons 10 (y ++ literal_after ls) (literal_solid y ls a.1 e))

first_other : (b : ℕ) (v : Bool) → (if b == 10 then v else b == 32) ≡ false → b ≢ 32
first_other b v h q = let at_space : (if 32 == 10 then v else 32 == 32) ≡ false = subst (λ w. (if w == 10 then v else w == 32) ≡ false) q h in true≢false at_space

literal_unspaced : (x : List ℕ) (ls : List (List ℕ)) (z : List ℕ) → EndsWithContent (x ∷ ls) → begins_with_space ((x ++ literal_after ls) ++ z) ≡ false
    → StartsUnspaced (x ∷ ls)
literal_unspaced [] [] z e h = absurd (e refl)
literal_unspaced [] (y ∷ ls) z e h = literal_unspaced y ls z e h
literal_unspaced (b ∷ x) ls z e h = first_other b (begins_with_space ((x ++ literal_after ls) ++ z)) h

-- Folded lines.

after_solid : (s : Bool) (k : ℕ) (ls : List (List ℕ)) → AreLines ls → EndsWithContent ls → EndsSolid (folded_after s k ls)
after_solid s k [] a e = absurd e
after_solid s k ([] ∷ []) a e = absurd (e refl)
after_solid s k ([] ∷ y ∷ ls) a e = after_solid s (k + 1) (y ∷ ls) a.1 e
after_solid s k ((c ∷ x) ∷ []) a e = solid_alone (joint (s || is_white c) k ++ (c ∷ x)) (solid_after (joint (s || is_white c) k) (c ∷ x) (solid_line c x a.0))
after_solid s k ((c ∷ x) ∷ y ∷ ls) a e =
    solid_after (joint (s || is_white c) k ++ (c ∷ x)) (folded_after (is_white c) 0 (y ∷ ls)) (after_solid (is_white c) 0 (y ∷ ls) a.1 e)

folded_solid : (ls : List (List ℕ)) → AreLines ls → EndsWithContent ls → EndsSolid (folded ls)
folded_solid [] a e = absurd e
folded_solid ([] ∷ []) a e = absurd (e refl)
folded_solid ([] ∷ y ∷ ls) a e = solid_cons 10 (folded (y ∷ ls)) (folded_solid (y ∷ ls) a.1 e)
folded_solid ((c ∷ x) ∷ []) a e = solid_alone (c ∷ x) (solid_line c x a.0)
folded_solid ((c ∷ x) ∷ y ∷ ls) a e = solid_after (c ∷ x) (folded_after (is_white c) 0 (y ∷ ls)) (after_solid (is_white c) 0 (y ∷ ls) a.1 e)

folded_unspaced : (ls : List (List ℕ)) (z : List ℕ) → EndsWithContent ls → begins_with_space (folded ls ++ z) ≡ false → StartsUnspaced ls
folded_unspaced [] z e h = absurd e
folded_unspaced ([] ∷ []) z e h = absurd (e refl)
folded_unspaced ([] ∷ y ∷ ls) z e h = folded_unspaced (y ∷ ls) z e h
folded_unspaced ((c ∷ x) ∷ ls) z e h = first_other c (begins_with_space ((x ++ folded_after (is_white c) 0 ls) ++ z)) h

-- Scalars.

-- that many line feeds end the text
ending_written : (n : ℕ) → ending (chomp_of n) (n - 1) ≡ feeds n
ending_written zero = refl
ending_written (suc zero) = refl
ending_written (suc (suc n)) = let more : suc (suc n) - 1 + 1 ≡ suc (suc n) = omega arith in ap feeds more

ending_read : (c : Chomp) (tail : ℕ) (o : Bool) → (n : ℕ) × ((if o then [] else ending c tail) ≡ feeds n)
ending_read c tail true = (0, refl)
ending_read Strip tail false = (0, refl)
ending_read Clip tail false = (1, refl)
ending_read Keep tail false = (tail + 1, refl)

folded_fits : (ls : List (List ℕ)) (n : ℕ) → AreLineTexts ls → EndsWithContent ls → FitScalar Folded (folded ls ++ feeds n) ls
folded_fits [] n a e = absurd e
folded_fits (x ∷ ls) n a e =
    let solid : EndsSolid (folded (x ∷ ls)) = folded_solid (x ∷ ls) (are_lines (x ∷ ls) a) e in
    record {
      block = refl;
      content = λ indent. ap (λ k. folded (x ∷ ls) ++ ending (chomp_of k) (k - 1)) (count_feeds (folded (x ∷ ls)) n solid)
          ∙ ap (λ w. folded (x ∷ ls) ++ w) (ending_written n);
      kept = refl;
      texts = a;
      last = e;
      unspaced = λ h. folded_unspaced (x ∷ ls) (feeds n) e h;
    }

literal_fits : (ls : List (List ℕ)) (n : ℕ) → AreLineTexts ls → EndsWithContent ls → FitScalar Literal (literal ls ++ feeds n) []
literal_fits [] n a e = absurd e
literal_fits (x ∷ ls) n a e =
    let own = are_lines (x ∷ ls) a in
    let solid : EndsSolid (literal (x ∷ ls)) = literal_solid x ls own e in
    let text : List ℕ = literal (x ∷ ls) ++ feeds n in
    let lines : content_lines Literal text [] ≡ x ∷ ls =
    ap cut_at_feeds (cut_back (literal (x ∷ ls)) n solid) ∙ cut_line x (literal_after ls) ls own.0 (cut_after ls own.1) in
    record {
      block = refl;
      content = λ indent. ap (λ w. content_of (header_of Literal indent text) w (final_feeds text - 1) false) lines
          ∙ (ap (λ k. literal (x ∷ ls) ++ ending (chomp_of k) (k - 1)) (count_feeds (literal (x ∷ ls)) n solid)
          ∙ ap (λ w. literal (x ∷ ls) ++ w) (ending_written n));
      kept = refl;
      texts = subst (λ w. AreLineTexts w) (sym lines) a;
      last = subst (λ w. EndsWithContent w) (sym lines) e;
      unspaced = λ h. subst (λ w. StartsUnspaced w) (sym lines) (literal_unspaced x ls (feeds n) e h);
    }

lines_fit : (f : Bool) (ls : List (List ℕ)) (n : ℕ) → AreLineTexts ls → EndsWithContent ls
    → FitScalar (style_of f) ((if f then folded ls else literal ls) ++ feeds n) (kept_lines f ls)
lines_fit true ls n a e = folded_fits ls n a e
lines_fit false ls n a e = literal_fits ls n a e

-- the content of a header with these lines
pub block_fits : (h : Header) (ls : List (List ℕ)) (tail : ℕ) (o : Bool) → AreLineTexts ls → EndsWithContent ls
    → FitScalar (style_of h.folded) (content_of h ls tail o) (kept_lines h.folded ls)
block_fits h [] tail o a e = absurd e
block_fits h (x ∷ ls) tail o a e =
    let end = ending_read h.chomp tail o in
    subst (λ w. FitScalar (style_of h.folded) ((if h.folded then folded (x ∷ ls) else literal (x ∷ ls)) ++ w) (kept_lines h.folded (x ∷ ls))) (sym end.1)
    (lines_fit h.folded (x ∷ ls) end.0 a e)

-- without a content line, all characters are line feeds
feeds_alone : (n : ℕ) → has_block_content (feeds n) ≡ false
feeds_alone zero = refl
feeds_alone (suc n) = feeds_alone n

lone_content : (c : Chomp) (tail : ℕ) → has_block_content (lone_tail c tail) ≡ false
lone_content Strip tail = refl
lone_content Clip tail = refl
lone_content Keep tail = feeds_alone tail

-- as it is read, if the house style leaves it a block scalar
pub read_block_fits : {t : List ℕ} {n : ℤ} {h : Header} {i j : ℕ} {v : BodyValue} → IsUtf8 t → Body t n h i j v
    → has_block_content (content_of h v.lines v.tail v.open_end) ≡ true
    → FitScalar (style_of h.folded) (content_of h v.lines v.tail v.open_end) (kept_lines h.folded v.lines)
read_block_fits {h = h} {v = v} u b c = go v.lines refl c where
  go : (ls : List (List ℕ)) → v.lines ≡ ls → has_block_content (content_of h ls v.tail v.open_end) ≡ true
      → FitScalar (style_of h.folded) (content_of h v.lines v.tail v.open_end) (kept_lines h.folded v.lines)
  go [] e c = absurd (true≢false (sym c ∙ lone_content h.chomp v.tail))
  go (x ∷ ls) e c =
      let s = body_scalar u b (λ none. cc) in
      block_fits h v.lines v.tail v.open_end s.lines s.last
