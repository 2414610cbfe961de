-- What is planned for the files after a grant or a revocation is the change of that update.
use Rattle.std.proofs.Common.{◌≡◌, ℕ, ◌+◌, List, length, refl, sym, ◌∙◌, ap, subst}
use Rattle.std.specs.Prelude.{Option, Some, None}
use Rattle.ov_base_layer.specs.declared.grant.Grant.{Grant}
use Rattle.ov_history.specs.Asking.{refusal_at}
use Rattle.ov_history.specs.Briefs.{Brief, BriefRevoke}
use Rattle.ov_history.specs.History.{Revoked}
use Rattle.ov_tokens.specs.declared.token.Token.{Token}
use Rattle.ov_history.specs.Lists.{byte_sum}
use Rattle.ov_history.specs.Layers.{lists_of, lists_after, wants_of, with_wants}
use Rattle.ov_history.specs.Catalogue.{Filed, Catalogue, outline, matrix_shown, granted, grown_catalogue, settled_files, settled_under, catalogue_after}
use Rattle.ov_history.specs.Briefs.{outer}
use Rattle.ov_history.specs.Rewrites.{rewrites_from}
use Rattle.ov_history.specs.Sealed.{HasParts, refusal_shown}
use Rattle.ov_state.specs.declared.change.Change.{Change}
use Rattle.ov_state.specs.declared.change.Growth.TheVariants.{Nothing}
use Rattle.ov_state.specs.declared.relisting.Relisting.{Relisting}
use Rattle.ov_state.specs.declared.rewrites.Rewrites.{Rewrites}
use Rattle.ov_state.specs.Contents.{IsWell}
use Rattle.ov_state.specs.Changes.{applied, all_rewritten, files_grown, AreOfFiles, Fits}
use Rattle.ov_state.specs.Plans.{IsChange}
use Rattle.ov_state.specs.Relistings.{access_of, change_with, nodes_planned, wants_after, AreSettled, IsDecided}
use Rattle.ov_state.proofs.WellAfter.{well_after, HasFileSize}
use Rattle.ov_state.proofs.WellFiles.{bytes_in, byte_sum-shown, bytes_in-settled}

-- the catalogue at the next epoch, with these access tokens
abbrev pub at_next : Catalogue → List Grant → Catalogue
at_next s grants = record s { epoch = s.epoch + 1; grants = grants }

module _ {W : ℕ} (master : List ℕ) (s : Catalogue) (user node : ℕ) (plan : Rewrites W) where
  -- what the change makes
  applied_is : (token : Option Token)
      → applied s (change_with (byte_sum (matrix_shown s).files) (access_of user node token) plan)
      ≡ record (at_next s (granted s.grants user node token)) {
        surface = nodes_planned s.surface plan.nodes;
        files = all_rewritten (s.epoch + 1) plan.list.items s.files;
      }
  applied_is None = refl
  applied_is (Some token) = refl

  same_files : (token : Option Token) → files_grown s.files (access_of user node token) ≡ s.files
  same_files None = refl
  same_files (Some token) = refl

  settled_is : (grants : List Grant) (wants : List (Option ℕ)) → AreSettled master s wants plan
      → record (at_next s grants) { surface = nodes_planned s.surface plan.nodes; files = all_rewritten (s.epoch + 1) plan.list.items s.files }
      ≡ settled_under master (at_next s grants) wants
  settled_is grants wants h = λ i. record (at_next s grants) { surface = h.nodes i; files = h.files i }

  -- an update that adds no more than an access token
  pub list-change : (limit : ℕ) (u : Brief) (token : Option Token)
      → grown_catalogue s u ≡ at_next s (granted s.grants user node token)
      → refusal_shown s u ≡ None → HasParts (outline s) u → HasFileSize u → IsWell limit s
      → Fits limit s.users s.files s.base.sets s.grants (access_of user node token)
      → AreSettled master s (wants_of (outline (grown_catalogue s u)) (lists_after (lists_of (outline s)) (outer u))) plan
      → IsChange limit master s u (change_with (byte_sum (matrix_shown s).files) (access_of user node token) plan)
  list-change limit u token grows accepted has_parts fitting well fits h = record {
    taken = (accepted, has_parts);
    made = made;
    rewrites = h.rewrites ∙ ap (λ (t : Catalogue). rewrites_from 0 s.files (settled_files t.epoch (with_wants t.surface.sets wants) wants t.files)) (sym grows);
    suits = record {
      growth = fits;
      base = tt;
      surface = h.planned.planned;
      rewrites = subst (λ (fs : List (Option Filed)). AreOfFiles (length fs) plan.list.items) (sym (same_files token)) h.there;
      well = subst (λ (t : Catalogue). IsWell limit t) (sym made) (well_after limit master s u well accepted has_parts fitting);
      size = byte_sum-shown s ∙ sym bytes ∙ sym (byte_sum-shown (applied s change));
    };
  } where
    change : Change W
    change = change_with (byte_sum (matrix_shown s).files) (access_of user node token) plan

    wants : List (Option ℕ)
    wants = wants_of (outline (grown_catalogue s u)) (lists_after (lists_of (outline s)) (outer u))

    made : applied s change ≡ catalogue_after master s u
    made =
        applied_is token ∙ settled_is (granted s.grants user node token) wants h
        ∙ ap (λ (t : Catalogue). settled_under master t wants) (sym grows)

    bytes : bytes_in (applied s change).files ≡ bytes_in s.files
    bytes =
        ap (λ (t : Catalogue). bytes_in t.files) (applied_is token) ∙ ap bytes_in h.files
        ∙ bytes_in-settled (s.epoch + 1) (with_wants s.surface.sets wants) wants s.files

-- the revocation is planned
pub revoke-change : {W : ℕ} (limit : ℕ) (s : Catalogue) (user file : ℕ) → IsWell limit s → (r : Relisting W)
    → IsDecided s (Revoked user file) user file r → refusal_at s (Revoked user file) ≡ None
    → (master : List ℕ) (plan : Rewrites W) → AreSettled master s (wants_after (outline s) r 0 (outline s).files) plan
    → IsChange limit master s (BriefRevoke user file) (change_with (byte_sum (matrix_shown s).files) Nothing plan)
revoke-change limit s user file well r decided accepted master plan h =
    list-change master s user r.node plan limit (BriefRevoke user file) None refl accepted tt tt well tt
    (subst (λ (ws : List (Option ℕ)). AreSettled master s ws plan) decided.wants h)
