-- What is kept of each live frame, when commits are more, and when frames come and go.
use Rattle.std.proofs.Common.{◌≡◌, refl, sym, ◌∙◌, ap, subst, suc, ◌+◌, ℕ, List, [], ◌∷◌, ◌++◌, length, length-append, take, map, Bool, true, false, not, cond, Option, Some, None, arith}
use Rattle.std.proofs.lemmas.List.{map-append, take-append-le}
use Rattle.std.proofs.lemmas.List.{length-map}
use Rattle.std.specs.Cmp.Lexicographic.{bytes_decides}
use Rattle.std.specs.declared.alloc.Global.{Global}
use Rattle.std.specs.declared.sync.Arc.{Arc}
use Rattle.lf_rdf.specs.declared.quad.Signed.{Signed}
use Rattle.lf_model.specs.declared.document.Doc.{Doc}
use Rattle.def_datasets.specs.Dataset.{after_all, at_version}
use Rattle.lf_rdf.specs.Equality.{text_eq}
use Rattle.def_histories.specs.declared.live.Live.{Live}
use Rattle.def_histories.specs.History.{publish}
use Rattle.def_histories.specs.HistoryLaws.{with_published}
use Rattle.def_histories.specs.Jobs.{IsPrefix, IsPrefixIfSome}
use Rattle.def_histories.proofs.JobProofs.{prefix_of_longer}
use Rattle.lf_frames.specs.FrameTexts.{document}
use Rattle.lf_versions.specs.declared.commit.Commit.{Commit}
use Rattle.lf_versions.specs.Commits.{lines_of}
use Rattle.lf_board.specs.Boards.{Shown, patches_by}
use Rattle.lf_core.specs.declared.frames.Kept.{Kept}
use Rattle.lf_core.specs.Kept.{AreKept, IsHome, IsKept, IsShown, find_kept, has_name, lives, updated, without_kept}
use Rattle.lf_core.proofs.Once.{AreOnce, IsAlone}

lines-append : (one two : List Commit) → lines_of (one ++ two) ≡ lines_of one ++ lines_of two
lines-append one two = map-append (λ (c : Commit). c.patch.lines) one two

prefix-more : (first : Option (List (List Signed))) (one two : List Commit) → IsPrefixIfSome first (lines_of one) → IsPrefixIfSome first (lines_of (one ++ two))
prefix-more None one two begun = tt
prefix-more (Some first) one two begun =
    subst (IsPrefix first) (sym (lines-append one two)) (prefix_of_longer first (lines_of one) (lines_of two) begun)

home-more : (text : List ℕ) (board : Option Shown) (one two : List Commit) → IsHome one text board → IsHome (one ++ two) text board
home-more text None one two home = tt
home-more text (Some board) one two home = (home.0, prefix-more (patches_by board.version) one two home.1)

shown-more : (text : List ℕ) (published : Option ℕ) (doc : Option (Arc Doc Global)) (one two : List Commit) → IsShown one text published doc
    → IsShown (one ++ two) text published doc
shown-more text None None one two shown = tt
shown-more text None (Some doc) one two shown = shown
shown-more text (Some version) None one two shown = shown
shown-more text (Some version) (Some doc) one two shown =
    let sized : length (lines_of one) ≡ length one = length-map one (λ (c : Commit). c.patch.lines) in
    let longer : length (one ++ two) ≡ length one + length two = length-append one two in
    let same : at_version (lines_of (one ++ two)) version ≡ at_version (lines_of one) version =
    ap (after_all []) (ap (take version) (lines-append one two) ∙ take-append-le version (lines_of one) (lines_of two) (omega (arith, shown.0, sized))) in
    (omega (arith, shown.0, longer), shown.1 ∙ ap (document text) (sym same))

-- more commits leave what is kept
pub kept-more : (frames : List Kept) (one two : List Commit) → AreKept one frames → AreKept (one ++ two) frames
kept-more [] one two all = tt
kept-more (kept ∷ rest) one two all = (
  record {
    read = all.0.read;
    home = home-more kept.live.text kept.board one two all.0.home;
    shown = shown-more kept.live.text kept.live.published kept.doc one two all.0.shown;
  },
  kept-more rest one two all.1,
)

left_first : (name : List ℕ) (commits : List Commit) (kept : Kept) (rest : List Kept) (b : Bool) → IsKept commits kept
    → AreKept commits (without_kept name rest) → AreKept commits (cond b (kept ∷ without_kept name rest) (without_kept name rest))
left_first name commits kept rest true is all = (is, all)
left_first name commits kept rest false is all = all

-- frames that are left out leave what is kept of the others
pub kept-left : (name : List ℕ) (commits : List Commit) (frames : List Kept) → AreKept commits frames → AreKept commits (without_kept name frames)
kept-left name commits [] all = tt
kept-left name commits (kept ∷ rest) all =
    left_first name commits kept rest (not (has_name name kept)) all.0 (kept-left name commits rest all.1)

pub kept-end : (commits : List Commit) (frames : List Kept) (kept : Kept) → AreKept commits frames → IsKept commits kept → AreKept commits (frames ++ kept ∷ [])
kept-end commits [] kept all is = (is, tt)
kept-end commits (first ∷ rest) kept all is = (all.0, kept-end commits rest kept all.1 is)

-- ---- the frame of a name changes

pub updated_length : (name : List ℕ) (change : Kept → Kept) (frames : List Kept) → length (updated name change frames) ≡ length frames
updated_length name change [] = refl
updated_length name change (kept ∷ rest) = by (has_name name kept) (updated_length name change rest)
  where
    by : (b : Bool) → length (updated name change rest) ≡ length rest
        → length (cond b (change kept ∷ rest) (kept ∷ updated name change rest)) ≡ length (kept ∷ rest)
    by true ih = refl
    by false ih = ap suc ih

pub updated_lives : (name : List ℕ) (change : Kept → Kept) (frames : List Kept) → ((kept : Kept) → (change kept).live ≡ kept.live)
    → lives (updated name change frames) ≡ lives frames
updated_lives name change [] same = refl
updated_lives name change (kept ∷ rest) same = by (has_name name kept) (updated_lives name change rest same)
  where
    by : (b : Bool) → lives (updated name change rest) ≡ lives rest
        → lives (cond b (change kept ∷ rest) (kept ∷ updated name change rest)) ≡ lives (kept ∷ rest)
    by true ih = ap (λ (frame : Live). frame ∷ lives rest) (same kept)
    by false ih = ap (λ (w : List Live). kept.live ∷ w) ih

some_is : (one two : Kept) → Some one ≡ Some two → one ≡ two
some_is one two same = cc

-- what is kept of it is kept of what it changes to
pub kept_updated : (name : List ℕ) (change : Kept → Kept) (commits : List Commit) (frames : List Kept) (kept : Kept)
    → AreKept commits frames → find_kept name frames ≡ Some kept → IsKept commits (change kept) → AreKept commits (updated name change frames)
kept_updated name change commits [] kept all found is = tt
kept_updated name change commits (first ∷ rest) kept all found is =
    by (has_name name first) found (λ e. kept_updated name change commits rest kept all.1 e is)
  where
    by : (b : Bool) → cond b (Some first) (find_kept name rest) ≡ Some kept
        → (find_kept name rest ≡ Some kept → AreKept commits (updated name change rest))
        → AreKept commits (cond b (change first ∷ rest) (first ∷ updated name change rest))
    by true e ih = (subst (λ (one : Kept). IsKept commits (change one)) (sym (some_is first kept e)) is, all.1)
    by false e ih = (all.0, ih e)

-- a publication changes the frame of its name alone
none_published : (name : List ℕ) (version : ℕ) (frame : Live) (rest : List Live) → text_eq name frame.name ≡ true → IsAlone frame rest
    → map (publish name version) rest ≡ rest
none_published name version frame [] same alone = refl
none_published name version frame (other ∷ rest) same alone =
    (λ i. kept_as i ∷ none_published name version frame rest same alone.1 i)
  where
    apart : text_eq name other.name ≡ false
    apart = ap (λ (n : List ℕ). text_eq n other.name) ((bytes_decides name frame.name).0 same) ∙ alone.0.name

    kept_as : publish name version other ≡ other
    kept_as = rw apart refl

pub updated_published : (name : List ℕ) (version : ℕ) (change : Kept → Kept) (frames : List Kept)
    → ((kept : Kept) → (change kept).live ≡ with_published kept.live (Some version)) → AreOnce (lives frames)
    → lives (updated name change frames) ≡ map (publish name version) (lives frames)
updated_published name version change [] is once = refl
updated_published name version change (kept ∷ rest) is once =
    by (has_name name kept) refl (updated_published name version change rest is once.1)
  where
    by : (b : Bool) → has_name name kept ≡ b → lives (updated name change rest) ≡ map (publish name version) (lives rest)
        → lives (cond b (change kept ∷ rest) (kept ∷ updated name change rest))
        ≡ cond b (with_published kept.live (Some version)) kept.live ∷ map (publish name version) (lives rest)
    by true e ih = λ i. is kept i ∷ sym (none_published name version kept.live (lives rest) e once.0) i
    by false e ih = ap (λ (w : List Live). kept.live ∷ w) ih
