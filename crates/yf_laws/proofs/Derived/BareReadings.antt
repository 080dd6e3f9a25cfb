-- The parts of a reading that decide whether its first document has no `---`.
use Rattle.std.proofs.Common.{◌≡◌, ℕ, Bool, true, false, List, [], ◌∷◌, ◌++◌, map, Option, refl, sym, ap, ◌∙◌}
use Rattle.std.specs.Prelude.{not, ◌&&◌}
use Rattle.std.proofs.lemmas.Bool.{and_parts}
use Rattle.yf_events.specs.Event.{EventValue, EventInText, stream_starts, stream_ends}
use Rattle.yf_events.specs.Tree.{DocumentTree, flat_stream, unplaced}
use Rattle.yf_events.specs.declared.lists.Lists.{Lists}
use Rattle.yf_stream.specs.ReadingOf.{DocumentEvents, no_document, one_document, ReadingOf}
use Rattle.yf_stream.specs.Stream.{Document}
use Rattle.yf_stream.proofs.Existence.BreachLemmas.{values}
use Rattle.yf_stream.proofs.TagPass.SameTags.{noting_values}
use Rattle.yf_forms.specs.declared.style.Style.{Style}
use Rattle.yf_forms.specs.NormalForms.BareStart.{begins_bare, has_lead, is_bare, is_unmarked, keeps_starts}
use Rattle.yf_forms.specs.NormalForms.Normal.{Normal, normal_document, setting_of}
use Rattle.yf_laws.proofs.Writable.TreesRead.{first_unmarked}

abbrev bare_values : List EventValue → Bool
bare_values [] = false
bare_values (e ∷ []) = false
bare_values (e ∷ f ∷ es) = is_unmarked f

begins_values : (es : List EventInText) → begins_bare es ≡ bare_values (values es)
begins_values [] = refl
begins_values (e ∷ []) = refl
begins_values (e ∷ f ∷ es) = refl

documents_begin : {t : List ℕ} {ds : List Document} {x : List EventInText} {tags : List (Option (List ℕ))} → DocumentEvents t ds x tags
    → bare_values (values (unplaced stream_starts ∷ (x ++ (unplaced stream_ends ∷ [])))) ≡ first_unmarked ds
documents_begin no_document = refl
documents_begin (one_document g l m more) = refl

pub reading_begins : {t : List ℕ} {r : Lists} → (a : ReadingOf t r) → begins_bare r.events ≡ first_unmarked a.derived.documents
reading_begins {r = r} a = begins_values r.events ∙ (sym (ap bare_values (noting_values a.noted)) ∙ documents_begin a.events)

pub normal_begins : {t : List ℕ} {r m : Lists} {s : Style} → Normal t r s m → begins_bare m.events ≡ begins_bare r.events
normal_begins {t} {r} {m} {s} n = ap (λ (w : Lists). begins_bare w.events) n.is ∙ (by n.trees ∙ ap begins_bare (sym n.of_reading.events)) where
  by : (trees : List DocumentTree) → begins_bare (flat_stream (map (normal_document t (setting_of r s)) trees)) ≡ begins_bare (flat_stream trees)
  by [] = refl
  by (x ∷ xs) = refl

pub bare_begins : (m : Lists) (s : Style) → is_bare m s ≡ true → begins_bare m.events ≡ true
bare_begins m s e = (and_parts (begins_bare m.events) (not (has_lead m)) (and_parts (keeps_starts s) (begins_bare m.events && not (has_lead m)) e).1).0

pub bare_unled : (m : Lists) (s : Style) → is_bare m s ≡ true → has_lead m ≡ false
bare_unled m s e = turned (has_lead m) (and_parts (begins_bare m.events) (not (has_lead m)) (and_parts (keeps_starts s) (begins_bare m.events && not (has_lead m)) e).1).1 where
  turned : (b : Bool) → not b ≡ true → b ≡ false
  turned true e = sym e
  turned false e = refl
