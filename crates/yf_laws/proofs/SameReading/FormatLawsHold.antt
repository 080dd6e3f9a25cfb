-- A text that has a reading has exactly one formatting, which has a reading.
use Rattle.std.proofs.Common.{◌≡◌, List, map, refl, sym, ◌∙◌, subst}
use Rattle.std.proofs.lemmas.List.{length-map}
use Rattle.yf_events.specs.Tree.{DocumentTree, flat_stream}
use Rattle.yf_events.specs.declared.lists.Lists.{Lists}
use Rattle.yf_stream.proofs.HasReading.{well_formed_texts_have_readings}
use Rattle.yf_stream.proofs.LawsHold.{readings_are_one}
use Rattle.yf_laws.specs.FormatLaws.{FormatsAreAccepted, FormatsAreOne, FormatsExist}
use Rattle.yf_laws.specs.Layouts.Layout.{IsLayout}
use Rattle.yf_forms.specs.NormalForms.Normal.{Normal, normal_document, setting_of}
use Rattle.yf_laws.proofs.Derived.FormatsRead.{formats_well}
use Rattle.yf_laws.proofs.NormalForms.UniqueLemmas.{layout_unique, normal_unique}

pub formats_exist : FormatsExist
formats_exist t s r a =
    let f : DocumentTree → DocumentTree = normal_document t (setting_of r s) in
    let trees : List DocumentTree = map f a.trees in
    let m : Lists = record r { events = flat_stream trees } in (
      _,
      record {
        reading = r;
        normal = m;
        reads = a;
        is_normal = record { trees = a.trees; of_reading = a.of_reading; is = refl };
        writes = record {
          trees = trees;
          of_reading = record { events = refl; documents = a.of_reading.documents ∙ sym (length-map a.trees f) };
          is = refl;
        };
      },
    )

pub formats_are_one : FormatsAreOne
formats_are_one t u v s f g =
    let reading : g.reading ≡ f.reading = readings_are_one t f.reading g.reading f.reads g.reads in
    let normal : g.normal ≡ f.normal =
    normal_unique t f.reading s g.normal f.normal (subst (λ r. Normal t r s g.normal) reading g.is_normal) f.is_normal in
    layout_unique t f.normal s u v f.writes (subst (λ m. IsLayout t m s v) normal g.writes)

pub formats_accepted : FormatsAreAccepted
formats_accepted t u s utf8 f = let well = formats_well t u s utf8 f in well_formed_texts_have_readings u well.documents well.utf8 well.reads
