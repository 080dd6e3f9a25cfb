use Rattle.std.proofs.Common.{ap, inl, inr, refl}
use Rattle.yf_discovery.specs.declared.nearest.Discovery.TheVariants as discovery
use Rattle.yf_discovery.specs.Nearest.EndsIn.{has_settings, is_folder, is_unknown, is_top, may_be_top}
use Rattle.yf_discovery.proofs.NearestLemmas.{shown_at}
use Rattle.yf_discovery.proofs.nearest.look_in.Goals as goal

pub returns-in-Nothing-look : goal.returns-in-Nothing-look
returns-in-Nothing-look g c = record {
  settings = shown_at (g.F.Folders.shows c.args.folders.now) _ _ _ _ c.as_str.ensures c.in_ok-settings.ensures
      c.in-Nothing.ensures;
  repository = shown_at (g.F.Folders.shows c.args.folders.now) _ _ _ _ c.as_str-in-Nothing.ensures
      c.in_ok-repository.ensures c.in-Nothing-look.ensures;
}

pub returns-in-File-look : goal.returns-in-File-look
returns-in-File-look g c = is_top
    (shown_at (g.F.Folders.shows c.args.folders.now) _ _ _ _ c.as_str.ensures c.in_ok-settings.ensures
    c.in-Nothing.ensures)
    (inr (shown_at (g.F.Folders.shows c.args.folders.now) _ _ _ _ c.as_str-in-Nothing.ensures
    c.in_ok-repository.ensures c.in-File-look.ensures))
    refl

pub returns-in-Folder-look : goal.returns-in-Folder-look
returns-in-Folder-look g c = is_top
    (shown_at (g.F.Folders.shows c.args.folders.now) _ _ _ _ c.as_str.ensures c.in_ok-settings.ensures
    c.in-Nothing.ensures)
    (inl (shown_at (g.F.Folders.shows c.args.folders.now) _ _ _ _ c.as_str-in-Nothing.ensures
    c.in_ok-repository.ensures c.in-Folder-look.ensures))
    refl

pub returns-in-Nothing : goal.returns-in-Nothing
returns-in-Nothing g c = may_be_top
    (shown_at (g.F.Folders.shows c.args.folders.now) _ _ _ _ c.as_str.ensures c.in_ok-settings.ensures
    c.in-Nothing.ensures)
    (shown_at (g.F.Folders.shows c.args.folders.now) _ _ _ _ c.as_str-in-Nothing.ensures
    c.in_ok-repository.ensures c.in-Unknown-look.ensures)
    (ap (λ n. discovery.Fault n) c.in_ok-repository.ensures)

pub returns-in-File : goal.returns-in-File
returns-in-File g c = has_settings
    (shown_at (g.F.Folders.shows c.args.folders.now) _ _ _ _ c.as_str.ensures c.in_ok-settings.ensures
    c.in-File.ensures)
    (ap (λ n. discovery.Settings n) c.in_ok-settings.ensures)

pub returns-in-Folder : goal.returns-in-Folder
returns-in-Folder g c = is_folder
    (shown_at (g.F.Folders.shows c.args.folders.now) _ _ _ _ c.as_str.ensures c.in_ok-settings.ensures
    c.in-Folder.ensures)
    (ap (λ n. discovery.Fault n) c.in_ok-settings.ensures)

pub returns : goal.returns
returns g c = is_unknown
    (shown_at (g.F.Folders.shows c.args.folders.now) _ _ _ _ c.as_str.ensures c.in_ok-settings.ensures
    c.in-Unknown.ensures)
    (ap (λ n. discovery.Fault n) c.in_ok-settings.ensures)
