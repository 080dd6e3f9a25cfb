use Rattle.std.proofs.Common.{◌≡◌, ℕ, List, [], Some, None, refl, sym, subst}
use Rattle.yf_events.specs.declared.event.Entry.{Entry}
use Rattle.yf_flow.specs.StackMeaning.{EntryNoted, NoteFilled, NoteOf, entry_noted, entry_from, pair_event}
use Rattle.yf_flow.proofs.Ends.EntryNotes.{entry_is}
use Rattle.yf_flow.proofs.entries.pair_start.Goals as goal

pair_noted : {t : List ℕ} {s : ℕ} (e : Entry) → EntryNoted t s None e → (folded : List (List ℕ)) → folded ≡ []
    → NoteFilled t (pair_event s) (record (pair_event s) { entry = Some e; folded = folded })
pair_noted {t} {s} e q folded same = record {
  no_lines = refl;
  note = subst (λ z. NoteOf t (pair_event s) (record (pair_event s) { entry = Some e; folded = z })) (sym same)
      (subst (λ z. NoteOf t (pair_event s) (record (pair_event s) { entry = Some z })) (entry_is e q)
      (entry_noted {e = pair_event s} (entry_from s) refl q.note));
}

pub returns : goal.returns
returns c = λ n. pair_noted _ (c.entry_at.ensures n) _ c.new.ensures
