-- The bytes that were read before a file is replaced, and the names of the two files.
use Rattle.std.proofs.Common.{◌≡◌, ◌≢◌, ◌⊎◌, inl, inr, ⊎_elim, ℕ, ◌≤◌, ◌==◌, Bool, true, false, List, [], ◌∷◌, ◌++◌, Option, Some, None, refl, sym, ◌∙◌, ap, subst, arith}
use Rattle.std.specs.Prelude.{if◌then◌else◌, codes, option_map}
use Rattle.std.specs.Str.{bytes_eq}
use Rattle.std.proofs.lemmas.Slice.Eq.{bytes_eq-Decides}
use Rattle.yf_files.specs.Calls.{Stays}
use Rattle.yf_files.specs.Replaced.{AtAnyMoment, IsText, FileReplaced}
use Rattle.yf_files.specs.Rewritten.{HeldAlready, IsFormatting, IsUntouched, Rewrote, new_name_of}
use Rattle.yf_files.specs.Tree.{TimePasses, MayBeFound, IsSound, Name, Node, FilesState, at, folder_of, has_slash, regular}
use Rattle.yf_files.proofs.LogLemmas.{carried}

-- if the file system stays as it was, each name has the node that it had
at_stays : (s t : FilesState) → Stays s t → (q : Name) → at t q ≡ at s q
at_stays s t c q = ap (option_map t.node) (c.entry q) ∙ each (s.entry q)
  where
    each : (o : Option ℕ) → option_map t.node o ≡ option_map s.node o
    each None = refl
    each (Some i) = ap Some (c.node i)

-- two texts that a test found unequal
pub differs : (a b : List ℕ) (r : Bool) → r ≡ false → r ≡ bytes_eq a b → a ≢ b
differs a b r fails test same = grind (arith, bytes_eq-Decides a b)

-- files that were only read are untouched
pub untouched : (old new : FilesState) → IsSound old → Stays old new → TimePasses old new → IsUntouched old new
untouched old new sound c time = record {
  stays = c;
  since = λ t q x le h. ⊎_elim (λ before. before)
      (λ now. sound.counts_now t q x le (now.0, c.is_there q now.0 now.1, carried new.holds old.holds now.0 x c.holds now.2))
      (time.nothing_else t q x le h);
}

-- a file that was only read holds what it held
pub held_already : (old new : FilesState) (file : Name) (text : List ℕ) → IsSound old → Stays old new → TimePasses old new → at old file ≡ Some (regular text)
    → HeldAlready old new file text
held_already old new file text sound c time is = record {
  untouched = untouched old new sound c time;
  holds = at_stays old new c file ∙ is;
  after_crash = λ x found. (found.0, c.is_there file found.0 found.1, carried new.holds old.holds found.0 x c.holds found.2);
}

-- The file was read, and its text is replaced by the formatting of what was read.
-- (b: the bytes that were formatted; t: the bytes that were read; u: the new text of the file; w: the formatter's
-- result; n: the new name)
module _ (Formats : List ℕ → List ℕ → Type 0) (old s new : FilesState) (file n : Name) (t b u w : List ℕ) (sound : IsSound old) (stays : Stays old s)
    (time : TimePasses old s) (is : at old file ≡ Some (regular t)) (same : b ≡ t) (formats : Formats b w) (put : u ≡ w) (name : n ≡ new_name_of file) where
  formats_read : Formats t u
  formats_read = subst (λ (v : List ℕ). Formats v u) same (subst (λ (v : List ℕ). Formats b v) (sym put) formats)

  pub rewritten : AtAnyMoment s new n (IsText file u) → AtAnyMoment old new (new_name_of file) (IsFormatting Formats old file)
  rewritten after = record {
    later = omega (arith, time.later, after.later);
    each = λ q x other h. ⊎_elim (λ before. inl (sound.only_now q x before)) (λ p. inr p) (elapsed old.moment q x (omega arith) other h);
    earlier = elapsed;
  }
    where
      elapsed : (m : ℕ) (q : Name) (x : Option Node) → m ≤ old.moment → q ≢ new_name_of file → new.since m q x → old.since m q x ⊎ IsFormatting Formats old file q x
      elapsed m q x le other h = ⊎_elim (λ before. inl ((untouched old s sound stays time).since m q x le before)) (λ done. inr (done.0, (t, u, is, formats_read, done.1)))
          (after.earlier m q x (omega (arith, le, time.later)) (λ one. other (one ∙ name)) h)

  at_all_stays : (q : Name) → at s q ≡ at old q
  at_all_stays q = at_stays old s stays q

  pub rewrote : u ≢ t → FileReplaced s new file n u → Rewrote Formats old new file
  rewrote differs done = (
    t,
    is,
    inr (
      u,
      formats_read,
      (λ one. differs (sym one)),
      record {
        holds = done.holds;
        durable = done.durable;
        gone = λ x h. done.gone x (subst (λ (v : Name). MayBeFound new v x) (sym name) h);
        others = λ q no_file no_new. done.others q no_file (λ one. no_new (one ∙ name)) ∙ at_all_stays q;
      },
    ),
  )

-- a suffix without a slash changes no folder
has_slash_more : (xs suffix : Name) → has_slash suffix ≡ false → has_slash (xs ++ suffix) ≡ has_slash xs
has_slash_more [] suffix none = none
has_slash_more (x ∷ xs) suffix none = ap (λ b. if x == 47 then true else b) (has_slash_more xs suffix none)

folder_of_end : (suffix : Name) → has_slash suffix ≡ false → folder_of suffix ≡ []
folder_of_end [] none = refl
folder_of_end (x ∷ xs) none = ap (λ b. if b then x ∷ folder_of xs else []) none

folder_of_more : (xs suffix : Name) → has_slash suffix ≡ false → folder_of (xs ++ suffix) ≡ folder_of xs
folder_of_more [] suffix none = folder_of_end suffix none
folder_of_more (x ∷ xs) suffix none = ap (λ b. if b then x ∷ folder_of (xs ++ suffix) else []) (has_slash_more (x ∷ xs) suffix none)
    ∙ ap (λ r. if has_slash (x ∷ xs) then x ∷ r else []) (folder_of_more xs suffix none)

-- the new file is in the file's folder
pub beside : (file : Name) → folder_of (new_name_of file) ≡ folder_of file
beside file = folder_of_more file (codes ".yamlfmt-new") refl
