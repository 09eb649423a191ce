-- What a state holds after one more entry.
use Rattle.std.proofs.Common.{◌≡◌, refl, sym, ◌∙◌, ap, subst, suc, ◌+◌, ◌-◌, ◌<◌, ◌≤◌, ℕ, List, [], ◌∷◌, ◌++◌, length, length-append, map, true, Some, is_some, arith}
use Rattle.std.proofs.lemmas.List.{append-nil}
use Rattle.def_datasets.specs.Dataset.{after}
use Rattle.lf_frames.specs.FrameTexts.{is_frame}
use Rattle.def_histories.specs.declared.live.Live.{Live}
use Rattle.def_histories.specs.declared.operation.Operation.{Operation}
use Rattle.def_histories.specs.declared.operation.Operation.TheVariants.{Commit, Register, Retire, Publish}
use Rattle.lf_versions.specs.declared.commit.Commit as versions
use Rattle.def_histories.specs.History.{registrations, text_bytes, live, find_frame, publish, without, registered}
use Rattle.def_histories.specs.HistoryLaws.{with_published}
use Rattle.def_histories.specs.Legal.{IsAllowed, IsCommit, IsLegal, IsRegistration}
use Rattle.def_histories.specs.Replay.{newest_dataset}
use Rattle.def_histories.proofs.Appended.{registrations-append, text_bytes-append}
use Rattle.def_histories.proofs.LegalProofs.{allowed_is_legal}
use Rattle.def_histories.proofs.LiveProofs.{live_frames_step}
use Rattle.lf_core.specs.declared.frames.Kept.{Kept}
use Rattle.lf_core.specs.declared.entries.Entry.{Entry}
use Rattle.lf_core.specs.Entries.{commits_in, committing, operations}
use Rattle.lf_core.specs.Kept.{AreKept, IsKept, find_kept, updated, without_kept}
use Rattle.lf_core.specs.Replayed.{IsReplayed}
use Rattle.lf_core.proofs.Few.{seats_are}
use Rattle.lf_core.proofs.Keeping.{kept-end, kept-left, kept-more, kept_updated, updated_length, updated_lives, updated_published}
use Rattle.lf_core.proofs.Once.{AreOnce, live_once}
use Rattle.lf_core.proofs.Named.{some_from, is_live, without_lives, lives_end}

-- the commits of a history with one more entry
pub commits_in-append : (one two : List Operation) → commits_in (one ++ two) ≡ commits_in one ++ commits_in two
commits_in-append [] two = refl
commits_in-append (Commit seat patch ∷ rest) two = ap (λ (w : List versions.Commit). record { seat = seat; patch = patch } ∷ w) (commits_in-append rest two)
commits_in-append (Register seat name text ∷ rest) two = commits_in-append rest two
commits_in-append (Retire seat name ∷ rest) two = commits_in-append rest two
commits_in-append (Publish name version ∷ rest) two = commits_in-append rest two

no_commit : (history : List Operation) (entry : Operation) → commits_in (entry ∷ []) ≡ [] → commits_in (history ++ entry ∷ []) ≡ commits_in history
no_commit history entry none = commits_in-append history (entry ∷ []) ∙ (ap (λ w. commits_in history ++ w) none ∙ append-nil (commits_in history))

nothing : (n : ℕ) → n + 0 ≡ n
nothing n = omega arith

pub retired : (history : List Operation) (commits : List versions.Commit) (frames : List Kept) (texts bytes places room seats more seat : ℕ) (name : List ℕ)
    → IsReplayed history commits frames texts bytes places room seats → is_some (find_kept name frames) ≡ true
    → length (without_kept name frames) < length frames → room ≤ more
    → IsReplayed (history ++ Retire seat name ∷ []) commits (without_kept name frames) texts bytes places more seats
retired history commits frames texts bytes places room seats more seat name now found shorter grown =
    record {
      legal = allowed_is_legal is_frame history entry now.legal
          (some_from (live history name) (ap (λ (w : List Live). is_some (find_frame name w)) (sym now.same_frames) ∙ (sym (is_live name frames) ∙ found)));
      same_commits = now.same_commits ∙ sym (no_commit history entry refl);
      same_frames = without_lives name frames ∙ (ap (without name) now.same_frames ∙ sym (live_frames_step history entry));
      are_kept = kept-left name commits frames now.are_kept;
      counts_texts = now.counts_texts ∙ sym (registrations-append history (entry ∷ []) ∙ nothing (registrations history));
      counts_bytes = now.counts_bytes ∙ sym unsized;
      few_bytes = rw unsized now.few_bytes;
      has_places = rw (length-append history (entry ∷ [])) (placed (length history) (length (without_kept name frames)) (length frames) now.has_places shorter);
      has_seats = now.has_seats;
    }
  where
    entry : Operation
    entry = Retire seat name

    unsized : text_bytes (history ++ Retire seat name ∷ []) ≡ text_bytes history
    unsized = text_bytes-append history (Retire seat name ∷ []) ∙ nothing (text_bytes history)

    placed : (h w f : ℕ) → h + (f + (places + places)) ≤ room → w < f → h + 1 + (w + (places + places)) ≤ more
    placed h w f fit low = omega (arith, fit, low, grown)

pub put : (history : List Operation) (commits : List versions.Commit) (frames : List Kept) (texts bytes places room seats more grown_seats seat : ℕ)
    (name text : List ℕ) (kept : Kept)
    → IsReplayed history commits frames texts bytes places room seats → IsLegal is_frame (history ++ Register seat name text ∷ [])
    → kept.live ≡ registered name (texts + 1) text → IsKept commits kept
    → length (without_kept name frames) ≤ length frames → 1 ≤ places → room ≤ more → seats ≤ grown_seats
    → IsReplayed (history ++ Register seat name text ∷ []) commits (without_kept name frames ++ kept ∷ []) (texts + 1) (bytes + length text) (places - 1) more grown_seats
put history commits frames texts bytes places room seats more grown_seats seat name text kept now legal fresh is within one grown seated =
    record {
      legal = legal;
      same_commits = now.same_commits ∙ sym (no_commit history entry refl);
      same_frames =
          lives_end (without_kept name frames) kept
          ∙ ((λ i. without_lives name frames i ++ fresh i ∷ [])
          ∙ ((λ i. without name (now.same_frames i) ++ registered name (numbered i) text ∷ []) ∙ sym (live_frames_step history entry)));
      are_kept = kept-end commits (without_kept name frames) kept (kept-left name commits frames now.are_kept) is;
      counts_texts = rw (registrations-append history (entry ∷ [])) (rw (now.counts_texts) refl);
      counts_bytes = rw sized (ap (λ (n : ℕ). n + length text) now.counts_bytes);
      few_bytes = rw sized may.sized;
      has_places =
          rw (length-append history (entry ∷ []))
          (rw (length-append (without_kept name frames) (kept ∷ []))
          (placed (length history) (length (without_kept name frames)) (length frames) now.has_places within));
      has_seats = omega (arith, now.has_seats, seated);
    }
  where
    entry : Operation
    entry = Register seat name text

    may : IsRegistration is_frame history name text
    may = legal history (Register seat name text) [] refl

    numbered : texts + 1 ≡ suc (registrations history)
    numbered = omega (arith, now.counts_texts)

    end_zero : (m n : ℕ) → m + (n + 0) ≡ m + n
    end_zero m n = omega arith

    sized : text_bytes (history ++ Register seat name text ∷ []) ≡ text_bytes history + length text
    sized = text_bytes-append history (Register seat name text ∷ []) ∙ end_zero (text_bytes history) (length text)

    placed : (h w f : ℕ) → h + (f + (places + places)) ≤ room → w ≤ f → h + 1 + (w + 1 + ((places - 1) + (places - 1))) ≤ more
    placed h w f fit low = omega (arith, fit, low, grown, one)

pub committed : (history : List Operation) (commits version : List versions.Commit) (frames : List Kept) (texts bytes places room seats more : ℕ) (commit : versions.Commit)
    → IsReplayed history commits frames texts bytes places room seats → IsLegal is_frame (history ++ committing commit ∷ [])
    → version ≡ commits_in (history ++ committing commit ∷ []) → 1 ≤ places → room ≤ more
    → IsReplayed (history ++ committing commit ∷ []) version frames texts (bytes + commit.patch.bytes) (places - 1) more seats
committed history commits version frames texts bytes places room seats more commit now legal is one grown =
    record {
      legal = legal;
      same_commits = is;
      same_frames = now.same_frames ∙ sym (live_frames_step history entry);
      are_kept =
          subst (λ (w : List versions.Commit). AreKept w frames)
          (ap (λ (w : List versions.Commit). w ++ commit ∷ []) now.same_commits ∙ sym (is ∙ commits_in-append history (entry ∷ [])))
          (kept-more frames commits (commit ∷ []) now.are_kept);
      counts_texts = now.counts_texts ∙ sym (registrations-append history (entry ∷ []) ∙ nothing (registrations history));
      counts_bytes = rw sized (ap (λ (n : ℕ). n + commit.patch.bytes) now.counts_bytes);
      few_bytes = rw sized may.sized;
      has_places = rw (length-append history (entry ∷ [])) (omega (arith, now.has_places, grown, one));
      has_seats = now.has_seats;
    }
  where
    entry : Operation
    entry = committing commit

    may : IsCommit history commit.patch.bytes (length (after (newest_dataset history) commit.patch.lines))
    may = legal history (committing commit) [] refl

    sized : text_bytes (history ++ committing commit ∷ []) ≡ text_bytes history + commit.patch.bytes
    sized = text_bytes-append history (committing commit ∷ []) ∙ ap (λ (n : ℕ). text_bytes history + n) (nothing commit.patch.bytes)

-- room for more entries, and for more places
pub roomier : (history : List Operation) (commits : List versions.Commit) (frames : List Kept) (texts bytes places room seats more grown : ℕ)
    → IsReplayed history commits frames texts bytes places room seats → length history + (length frames + (more + more)) ≤ grown
    → IsReplayed history commits frames texts bytes more grown seats
roomier history commits frames texts bytes places room seats more grown now placed = record {
  legal = now.legal;
  same_commits = now.same_commits;
  same_frames = now.same_frames;
  are_kept = now.are_kept;
  counts_texts = now.counts_texts;
  counts_bytes = now.counts_bytes;
  few_bytes = now.few_bytes;
  has_places = placed;
  has_seats = now.has_seats;
}

-- a frame whose live part stays
pub changed : (history : List Operation) (commits : List versions.Commit) (frames : List Kept) (texts bytes places room seats : ℕ)
    (name : List ℕ) (change : Kept → Kept) (kept : Kept)
    → IsReplayed history commits frames texts bytes places room seats → find_kept name frames ≡ Some kept
    → ((one : Kept) → (change one).live ≡ one.live) → IsKept commits (change kept)
    → IsReplayed history commits (updated name change frames) texts bytes places room seats
changed history commits frames texts bytes places room seats name change kept now found same is = record {
  legal = now.legal;
  same_commits = now.same_commits;
  same_frames = updated_lives name change frames same ∙ now.same_frames;
  are_kept = kept_updated name change commits frames kept now.are_kept found is;
  counts_texts = now.counts_texts;
  counts_bytes = now.counts_bytes;
  few_bytes = now.few_bytes;
  has_places = subst (λ (n : ℕ). length history + (n + (places + places)) ≤ room) (sym (updated_length name change frames)) now.has_places;
  has_seats = now.has_seats;
}

-- a publication
pub published : (history : List Operation) (commits : List versions.Commit) (frames : List Kept) (texts bytes places room seats more : ℕ)
    (name : List ℕ) (version : ℕ) (change : Kept → Kept) (kept : Kept)
    → IsReplayed history commits frames texts bytes places room seats → IsAllowed is_frame history (Publish name version)
    → find_kept name frames ≡ Some kept → ((one : Kept) → (change one).live ≡ with_published one.live (Some version)) → IsKept commits (change kept)
    → 1 ≤ places → room ≤ more
    → IsReplayed (history ++ Publish name version ∷ []) commits (updated name change frames) texts bytes (places - 1) more seats
published history commits frames texts bytes places room seats more name version change kept now may found same is one grown = record {
  legal = allowed_is_legal is_frame history entry now.legal may;
  same_commits = now.same_commits ∙ sym (no_commit history entry refl);
  same_frames =
      updated_published name version change frames same (subst AreOnce (sym now.same_frames) (live_once history))
      ∙ (ap (map (publish name version)) now.same_frames ∙ sym (live_frames_step history entry));
  are_kept = kept_updated name change commits frames kept now.are_kept found is;
  counts_texts = now.counts_texts ∙ sym (registrations-append history (entry ∷ []) ∙ nothing (registrations history));
  counts_bytes = now.counts_bytes ∙ sym unsized;
  few_bytes = rw unsized now.few_bytes;
  has_places =
      rw (length-append history (entry ∷ []))
      (subst (λ (n : ℕ). length history + 1 + (n + ((places - 1) + (places - 1))) ≤ more) (sym (updated_length name change frames))
      (placed (length history) (length frames) now.has_places));
  has_seats = now.has_seats;
}
  where
    entry : Operation
    entry = Publish name version

    unsized : text_bytes (history ++ Publish name version ∷ []) ≡ text_bytes history
    unsized = text_bytes-append history (Publish name version ∷ []) ∙ nothing (text_bytes history)

    placed : (h f : ℕ) → h + (f + (places + places)) ≤ room → h + 1 + (f + ((places - 1) + (places - 1))) ≤ more
    placed h f fit = omega (arith, fit, grown, one)

-- the empty history
empty_is_legal : IsLegal is_frame []
empty_is_legal before entry rest e = absurd (none (length before) (length rest) (ap length e ∙ length-append before (entry ∷ rest)))
  where
    none : (one two : ℕ) → 0 ≡ one + suc two → ⊥
    none one two is = omega (arith, is)

pub fresh : (items : List Entry) (commits : List versions.Commit) (frames : List Kept) (room seats : ℕ) → items ≡ [] → commits ≡ [] → frames ≡ []
    → 16 ≤ seats → IsReplayed (operations items) commits frames 0 0 0 room seats
fresh items commits frames room seats none first no_frames seated =
    rw none (rw first (rw no_frames (record {
      legal = empty_is_legal;
      same_commits = refl;
      same_frames = refl;
      are_kept = tt;
      counts_texts = refl;
      counts_bytes = refl;
      few_bytes = omega arith;
      has_places = omega arith;
      has_seats = seats_are seats seated;
    })))
