-- What stands at a live frame is what the history says.
use Rattle.std.proofs.Common.{◌≡◌, refl, ◌∙◌, ap, subst, ℕ, List, Option, Some, None, is_some, Result, Ok, Err}
use Rattle.std.specs.Arc.{arc_value}
use Rattle.std.specs.Option.{option_map}
use Rattle.std.specs.declared.alloc.Global.{Global}
use Rattle.std.specs.declared.sync.Arc.{Arc}
use Rattle.lf_base.specs.declared.memory.Memory.{Memory}
use Rattle.lf_rdf.specs.declared.quad.Signed.{Signed}
use Rattle.lf_model.specs.declared.desk.Look.{Look}
use Rattle.lf_model.specs.declared.desk.Look.TheVariants.{Document, Pending, Unknown}
use Rattle.lf_model.specs.declared.document.Doc.{Doc}
use Rattle.def_datasets.specs.Dataset.{at_version}
use Rattle.def_histories.specs.declared.operation.Operation.{Operation}
use Rattle.def_histories.specs.History.{live}
use Rattle.def_histories.specs.Replay.{newest_dataset}
use Rattle.lf_frames.specs.FrameTexts.{document}
use Rattle.lf_desk.specs.Looks.{Looks}
use Rattle.lf_versions.specs.declared.commit.Commit as versions
use Rattle.lf_versions.specs.Commits.{dataset, lines_of}
use Rattle.lf_core.specs.declared.frames.Kept.{Kept}
use Rattle.lf_core.specs.Entries.{commits_in}
use Rattle.lf_core.specs.Kept.{IsKept, IsShown}
use Rattle.lf_core.specs.Looked.{IsPublished, LooksAt}
use Rattle.lf_core.proofs.Homecoming.{commits_count, lines_in}

published_by : (cs : List versions.Commit) (text : List ℕ) (published : Option ℕ) (doc : Option (Arc Doc Global)) → IsShown cs text published doc
    → is_some doc ≡ is_some published
published_by cs text None None shown = refl
published_by cs text None (Some doc) shown = absurd shown
published_by cs text (Some version) None shown = absurd shown
published_by cs text (Some version) (Some doc) shown = refl

pub is_published : (cs : List versions.Commit) (kept : Kept) → IsKept cs kept → IsPublished kept
is_published cs kept now = published_by cs kept.live.text kept.live.published kept.doc now.shown

doc_by : (cs : List versions.Commit) (text : List ℕ) (version : ℕ) (doc : Option (Arc Doc Global)) (told : Doc) → IsShown cs text (Some version) doc
    → Some told ≡ option_map arc_value doc → told ≡ document text (at_version (lines_of cs) version)
doc_by cs text version None told shown e = absurd shown
doc_by cs text version (Some doc) told shown e = same ∙ shown.1
  where
    same : told ≡ arc_value doc
    same = cc

pub looks : (history : List Operation) (cs : List versions.Commit) (name : List ℕ) (kept : Kept) (need : ℕ) (result : Result Look Memory)
    → live history name ≡ Some kept.live → cs ≡ commits_in history → IsKept cs kept → LooksAt kept need result → Looks history name need result
looks history cs name kept need (Ok Unknown) is_live same now told = absurd told
looks history cs name kept need (Ok (Pending have needed)) is_live same now told = (kept.live, is_live, told.0, told.1, told.2)
looks history cs name kept need (Ok (Document doc version)) is_live same now told = (
  kept.live,
  is_live,
  told.0,
  told.1,
  doc_by cs kept.live.text version kept.doc (arc_value doc)
      (subst (λ (published : Option ℕ). IsShown cs kept.live.text published kept.doc) told.0 now.shown) told.2
      ∙ ap (λ (lines : List (List Signed)). document kept.live.text (at_version lines version)) (ap lines_of same ∙ lines_in history),
)
looks history cs name kept need (Err refused) is_live same now told = (kept.live, is_live, told)

-- the dataset of the newest version
pub newest_is : (history : List Operation) (cs : List versions.Commit) → cs ≡ commits_in history → dataset cs ≡ newest_dataset history
newest_is history cs same = ap dataset same ∙ (λ i. at_version (lines_in history i) (commits_count history i))
