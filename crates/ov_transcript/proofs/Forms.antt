-- An update that wasn't refused can be sent.
use Rattle.std.proofs.Common.{◌≡◌, ◌∙◌, ℕ, ◌+◌, ◌<◌, ◌^◌, Bool, true, false, List, [], ◌∷◌, ◌++◌, ◌*◌}
use Rattle.std.proofs.Common.{length, length-append, map, refl, sym, ap, subst, arith}
use Rattle.std.specs.List.{AllByRecursion}
use Rattle.std.specs.Prelude.{IfSome, None}
use Rattle.std.proofs.lemmas.List.{length-map}
use Rattle.sha2.proofs.Facts256.{length-sha256}
use Rattle.ov_base.specs.Names.{IsName}
use Rattle.ov_base.specs.Sets.{IsBelow, has}
use Rattle.ov_base.specs.declared.limits.TheConstants.{SET_BYTES}
use Rattle.ov_keyed.proofs.HmacLemmas.{length-hmac}
use Rattle.ov_ctr.proofs.Pad.{length-xor_pad}
use Rattle.ov_fields.specs.Spelling.{IsToken, u32}
use Rattle.ov_tokens.specs.declared.label.Kind.TheVariants.{Access, Derive}
use Rattle.ov_tokens.specs.declared.token.Token.{Token}
use Rattle.ov_tokens.specs.Keys.{access_key_of, node_key}
use Rattle.ov_tokens.specs.Labels.{label_of}
use Rattle.ov_tokens.proofs.TokenLemmas.{length-node_key, length-token_of}
use Rattle.ov_graph.specs.Contents.{plan_of}
use Rattle.ov_base_layer.specs.Seals.{access_token, cover_tokens, edge_token}
use Rattle.ov_surface.specs.Coats.{base_text}
use Rattle.ov_record.specs.Spelling.{HasForm, spelling}
use Rattle.ov_record.specs.Updates.{SealedReplace, SealedUpdate}
use Rattle.ov_record.proofs.UpdateLaws.{update_reads, second_has_room}
use Rattle.ov_record.specs.Forms.{second_form}
use Rattle.ov_history.specs.Asking.{file_named, user_named}
use Rattle.ov_history.specs.Catalogue.{Catalogue, outline}
use Rattle.ov_history.specs.History.{Matrix, Replaced, epoch_of, matrix_of}
use Rattle.ov_history.specs.Layers.{Layers, holders, layers_of, list_in, node_for, node_of}
use Rattle.ov_history.specs.Layers.{root_of}
use Rattle.ov_history.specs.Lists.{file_number, set_named, user_number}
use Rattle.ov_history.specs.Masters.{Masters, access_key}
use Rattle.ov_history.specs.Plain.{PlainCreate, PlainEnrol, PlainGrant, PlainHistory, PlainRevoke}
use Rattle.ov_history.specs.Plain.{PlainRemove, PlainReplace, history_of}
use Rattle.ov_history.specs.Refusals.{IsLegal, refusal_of}
use Rattle.ov_history.specs.Sealed.{catalogue_of}
use Rattle.ov_history.specs.Sealing.{sealed, sealed_tag, sealed_text, sealed_tokens}
use Rattle.ov_history.specs.Sealing.{sealed_update, token_unless}
use Rattle.ov_history.specs.Sent.{spelled}
use Rattle.ov_history.specs.Laws.{ShowsHistory}
use Rattle.ov_history.proofs.Keeping.{kept_shows}
use Rattle.ov_model.proofs.Spellings.{is_spelling}
use Rattle.ov_wire.specs.declared.request.Question.TheVariants as questions
use Rattle.ov_wire.specs.declared.request.Request.TheVariants as requests
use Rattle.ov_wire.specs.declared.answer.Known.{Known}
use Rattle.ov_wire.specs.declared.answer.Plan.{Plan}
use Rattle.ov_wire.specs.declared.answer.Answer.TheVariants as answers
use Rattle.ov_wire.specs.AnswerForm.{HasKnownForm}
use Rattle.ov_wire.specs.AnswersTo.{IsPlan}
use Rattle.ov_wire.specs.Requests.{HasRequestForm, request_bytes}
use Rattle.ov_protocol.specs.Asking.{AnswersAsk, AnswersCover, AnswersReplan}
use Rattle.ov_protocol.specs.Updating.{owner_tag}
use Rattle.ov_owner.specs.Talks.{update_request}
use Rattle.ov_owner.proofs.Telling.{names_after, refused_as, spelled_as}

-- ---- tokens

access_is_token : (master : List ℕ) (root node : ℕ) → IsToken (access_token master root node)
access_is_token master root node =
    length-token_of (node_key Derive master root) (access_key_of (node_key Derive master node))
    (label_of Access node)
    (length-sha256 _)

token_if : (b : Bool) (t : Token) → IsToken t → IfSome (token_unless b t) IsToken
token_if true t is = tt
token_if false t is = is

edges_are_tokens : (master : List ℕ) (node : ℕ) (from : List ℕ)
    → AllByRecursion IsToken (map (λ n. edge_token Derive master n node) from)
edges_are_tokens master node [] = tt
edges_are_tokens master node (n ∷ from) = (
  length-token_of (node_key Derive master n) (node_key Derive master node) (label_of Derive node)
      (length-node_key Derive master node),
  edges_are_tokens master node from,
)

-- ---- an update whose fields have form

pub update_length : (surface : List ℕ) (epoch : ℕ) (u : SealedUpdate)
    → length (request_bytes (update_request surface epoch u)) ≡ 37 + length (spelling second_form u)
update_length surface epoch u =
    let tag = owner_tag surface epoch (spelling second_form u) in
    let all : length tag ≡ 32 = length-hmac _ _ in
    omega (
      arith,
      all,
      length-append (u32 epoch ++ spelling second_form u) tag,
      length-append (u32 epoch)
          (spelling second_form u),
    )

pub update_form : (surface : List ℕ) (epoch : ℕ) (u : SealedUpdate) → epoch < 2 ^ 32 → HasForm second_form u
    → HasRequestForm (update_request surface epoch u)
update_form surface epoch u low form =
    let long = update_length surface epoch u in
    let short = (update_reads second_form second_has_room).short u form in record {
      is_request = (low, is_spelling u form, length-hmac _ _);
      fits = omega (arith, long, short);
    }

-- ---- what was told

module _ (k : Masters) (p : PlainHistory) (legal : IsLegal (history_of p)) where
  abbrev c : Catalogue
  c = catalogue_of k.surface (sealed k p)

  abbrev y : Layers
  y = layers_of (history_of p)

  abbrev m : Matrix
  m = matrix_of (history_of p)

  shows : ShowsHistory (history_of p) c
  shows = kept_shows k p c (legal, refl)

  -- what was sealed here has form, and the epoch fits its field
  pub record Fits (u : SealedUpdate) : Type 0 where
    pub form : HasForm second_form u
    pub low : epoch_of (history_of p) < 2 ^ 32

  pub fits_form : (u : SealedUpdate) → Fits u
      → HasRequestForm (update_request k.surface (epoch_of (history_of p)) u)
  fits_form u f = update_form k.surface (epoch_of (history_of p)) u f.low f.form

  low_epoch : (epoch : ℕ) → epoch ≡ c.epoch → epoch < 2 ^ 32 → epoch_of (history_of p) < 2 ^ 32
  low_epoch epoch is low = subst (λ n. n < 2 ^ 32) (is ∙ shows.epoch) low

  low_user : (n : ℕ) (name : List ℕ) → n ≡ user_named c name → n < 2 ^ 32
      → user_number m name < 2 ^ 32
  low_user n name is low =
      subst (λ n. n < 2 ^ 32) (is ∙ ap (λ (x : Matrix). user_number x name) shows.matrix) low

  low_file : (n : ℕ) (name : List ℕ) → n ≡ file_named c name → n < 2 ^ 32
      → file_number m name < 2 ^ 32
  low_file n name is low =
      subst (λ n. n < 2 ^ 32) (is ∙ ap (λ (x : Matrix). file_number x name) shows.matrix) low

  pub enrol_fits : (user : List ℕ) (known : Known) → IsName user
      → AnswersAsk c (questions.Enrol user) (answers.Known known) → HasKnownForm known
      → Fits (spelled (names_after p) (sealed_update k y (PlainEnrol user)))
  enrol_fits user known name (none, is) form = record {
    form = name;
    low = low_epoch known.epoch (ap (λ (x : Known). x.epoch) is) form.0;
  }

  pub grant_fits : (user file : List ℕ) (known : Known)
      → AnswersAsk c (questions.Grant user file) (answers.Known known) → HasKnownForm known
      → Fits (spelled (names_after p) (sealed_update k y (PlainGrant (user_number m user) (file_number m file))))
  grant_fits user file known (none, is) form = record {
    form = (
      low_user known.user user (ap (λ (x : Known). x.user) is) (omega (arith, form.1)),
      low_file known.file file (ap (λ (x : Known). x.file) is) (omega (arith, form.4)),
      token_if (has (holders y (node_of y (file_number m file))) (user_number m user))
          (access_token k.base (root_of y.base (user_number m user))
          (node_of y (file_number m file)))
          (access_is_token k.base (root_of y.base (user_number m user))
          (node_of y (file_number m file))),
    );
    low = low_epoch known.epoch (ap (λ (x : Known). x.epoch) is) form.0;
  }

  pub revoke_fits : (user file : List ℕ) (known : Known)
      → AnswersAsk c (questions.Revoke user file) (answers.Known known) → HasKnownForm known
      → Fits (spelled (names_after p) (sealed_update k y (PlainRevoke (user_number m user) (file_number m file))))
  revoke_fits user file known (none, is) form = record {
    form = (
      low_user known.user user (ap (λ (x : Known). x.user) is) (omega (arith, form.1)),
      low_file known.file file (ap (λ (x : Known). x.file) is) (omega (arith, form.4)),
    );
    low = low_epoch known.epoch (ap (λ (x : Known). x.epoch) is) form.0;
  }

  pub remove_fits : (file : List ℕ) (known : Known)
      → AnswersAsk c (questions.Remove file) (answers.Known known) → HasKnownForm known
      → Fits (spelled (names_after p) (sealed_update k y (PlainRemove (file_number m file))))
  remove_fits file known (none, is) form = record {
    form =
        (refl, low_file known.file file (ap (λ (x : Known). x.file) is) (omega (arith, form.4)));
    low = low_epoch known.epoch (ap (λ (x : Known). x.epoch) is) form.0;
  }

  pub create_fits : (file : List ℕ) (names : List (List ℕ)) (bytes : List ℕ) (plan : Plan)
      → HasRequestForm (requests.Cover file (length bytes) names)
      → AnswersCover c file (length bytes) (set_named c.users names) (answers.Plan plan)
      → IsPlan plan
      → Fits (spelled (names_after p) (sealed_update k y (PlainCreate file (set_named m.users names) bytes)))
  create_fits file names bytes plan first (none, is) form =
      let list = set_named m.users names in
      let cover = plan_of y.base list in
      let same_list : plan.list ≡ list =
      ap (λ (x : Plan). x.list) is ∙ ap (λ (x : Matrix). set_named x.users names) shows.matrix in
      let same_from : plan.from ≡ cover.from =
      ap (λ (x : Plan). x.from) is
      ∙ (λ i. (plan_of (shows.layers i).base (set_named (shows.matrix i).users names)).from) in
      let edges : length (cover_tokens Derive k.base cover) ≡ length cover.from =
      length-map cover.from _ in
      let few : length cover.from ≡ length plan.from = ap length (sym same_from) in
      let text : length (base_text (access_key k.base (node_for y.base list))
      (length y.files) bytes) ≡ length bytes =
      length-xor_pad (access_key k.base (node_for y.base list)) 0x42 (length y.files) 0 bytes in
      record {
        form = (
          first.is_request.0,
          subst (IsBelow (8 * SET_BYTES)) same_list form.2,
          omega (arith, edges, few, form.4),
          edges_are_tokens k.base cover.node cover.from,
          length-hmac _ _,
          omega (arith, text, first.is_request.1),
        );
        low = low_epoch plan.epoch (ap (λ (x : Plan). x.epoch) is) form.0;
      }

  -- a replacement that isn't refused is spelled with the name that was asked for
  pub replace_fits : (file bytes : List ℕ) (plan : Plan)
      → HasRequestForm (requests.Replan file (length bytes))
      → AnswersReplan c (file_named c file) (length bytes) (answers.Plan plan)
      → IsPlan plan
      → Fits (spelled (names_after p) (sealed_update k y (PlainReplace (file_number m file) bytes)))
  replace_fits file bytes plan first (none, is) form =
      let n = file_number m file in
      let list = list_in y n in
      let cover = plan_of y.base list in
      let same_list : list_in (outline c) (file_named c file) ≡ list =
      λ i. list_in (shows.layers i) (file_number (shows.matrix i) file) in
      let same_from : plan.from ≡ cover.from =
      ap (λ (x : Plan). x.from) is
      ∙ (λ i. (plan_of (shows.layers i).base (same_list i)).from) in
      let edges : length (sealed_tokens k y list) ≡ length cover.from = length-map cover.from _ in
      let few : length cover.from ≡ length plan.from = ap length (sym same_from) in
      let text : length (sealed_text k y list bytes) ≡ length bytes =
      length-xor_pad (access_key k.base (node_for y.base list)) 0x42 (length y.files) 0 bytes in
      let sent : SealedUpdate =
      SealedReplace file (sealed_tokens k y list) (sealed_tag k y list bytes)
      (sealed_text k y list bytes) in
      let free : refusal_of (history_of p) (Replaced n (length bytes)) ≡ None =
      sym (refused_as k p legal (λ (x : Matrix). Replaced (file_number x file) (length bytes)))
      ∙ none in
      record {
        form = subst (HasForm second_form)
            (sym (spelled_as k p legal (PlainReplace n bytes) sent refl free)) (
              refl,
              first.is_request.0,
              omega (arith, edges, few, form.4),
              edges_are_tokens k.base cover.node cover.from,
              length-hmac _ _,
              omega (arith, text, first.is_request.1),
            );
        low = low_epoch plan.epoch (ap (λ (x : Plan). x.epoch) is) form.0;
      }
