-- What users who kept everything can read after a history.
use Rattle.std.proofs.Common.{◌≡◌, ◌⊎◌, ◌<◌, ◌↔◌, ℕ, true, false, List, [], ◌∷◌, length, refl, sym}
use Rattle.std.proofs.Common.{◌∙◌, ap, subst, inl, inr}
use Rattle.std.specs.Prelude.{Contains, IfSome, Option, Some, None, is_some}
use Rattle.ov_base.specs.Sets.{Has, Within}
use Rattle.ov_base.specs.declared.mode.Mode.{Mode}
use Rattle.ov_base.specs.declared.mode.Mode.TheVariants.{Full}
use Rattle.ov_tokens.specs.declared.label.Kind.TheVariants.{Access, Surface}
use Rattle.ov_tokens.specs.declared.label.Label.{Label}
use Rattle.ov_tokens.specs.Labels.{label_of}
use Rattle.ov_surface.specs.Wanted.{wanted_surface}
use Rattle.ov_graph.proofs.ListLaws.{Contains-cases, Contains-first, Contains-none}
use Rattle.ov_history.specs.Sent.{SealedUpdate}
use Rattle.ov_history.specs.History.{File, History, matrix_of}
use Rattle.ov_history.specs.Places.{living_at}
use Rattle.ov_history.specs.Lists.{is_listed}
use Rattle.ov_history.specs.Layers.{Layers, Place, holders, layers_of, list_at, node_for, set_or, surface_at}
use Rattle.ov_history.specs.Words.{HasFile, place_in, want_of}
use Rattle.ov_history.specs.Catalogue.{Catalogue, Filed, outline, place_of_file}
use Rattle.ov_history.specs.Closure.{IsRootOf, IsRootOfSome, Reaches, ReachesAll, along, given}
use Rattle.ov_history.specs.Closure.{protecting, surface_label}
use Rattle.ov_history.specs.Sealed.{IsSealed, SealedHistory, catalogue_of, outer_of}
use Rattle.ov_history.specs.Sound.{IsPlaced, IsSound}
use Rattle.ov_exposure.specs.Exposure.{AccessKeysAreOfHolders, AreUsers, CoalitionReadsAsOne}
use Rattle.ov_exposure.specs.Exposure.{FullReadsWhatWasListed}
use Rattle.ov_exposure.specs.Exposure.{HoldsBaseNode, IsGiven, IsListedAt, IsMoment}
use Rattle.ov_exposure.specs.Exposure.{NoneIsBareInFull, ReadsWhatWasListedOrBare}
use Rattle.ov_exposure.specs.Exposure.{ServerReadsWhatIsHeld, StoodSo, WasBare, WasListedIn, as_of}
use Rattle.ov_exposure.specs.Exposure.{known_at}
use Rattle.ov_history.proofs.ClosureHolds.{holds_what_is_due}
use Rattle.ov_history.proofs.Coalitions.{all_reach, all_reach_each, one_reaches}
use Rattle.ov_exposure.proofs.Moments.{StaysIn, base_node_is_one, listed_there, moment_stays}
use Rattle.ov_exposure.proofs.Moments.{sealed_then, stays_at, stood_place, stood_there, there_stood}
use Rattle.ov_history.proofs.Showing.{history_is_shown}
use Rattle.ov_history.proofs.ShownLists.{listed-shown, users-shown}
use Rattle.ov_history.proofs.SoundHistories.{shown_is_sound}
use Rattle.ov_history.proofs.SurfaceLabels.{surface_next}
use Rattle.ov_history.proofs.Wanting.{surface_is_wanted}

-- one of the users is in the set
abbrev OneIn : List ℕ → ℕ → Type 0
OneIn users set = (user : ℕ) × Contains users user × Has set user

-- ---- a file of one catalogue, by the keys of a later one

module _ (c next : Catalogue) (stay : StaysIn c next) (now : IsSound next) (f : Filed)
    (placed : IsPlaced c f) where
  module _ (users : List ℕ) (there : (user : ℕ) → Contains users user → user < length next.users) where
    -- who has the access key holds the node now
    one_holds : (node : ℕ) → Reaches next (IsRootOfSome next users) (label_of Access node)
        → OneIn users (holders (outline next) node)
    one_holds node held =
        let (user, among, reached) = one_reaches next users (label_of Access node) held in (
          user,
          among,
          ((holds_what_is_due next now user (there user among) (label_of Access node)).0 reached).1,
        )

    -- who has the key of the surface was in its set then
    one_covered : (over : ℕ) → over < length c.surface.sets
        → Reaches next (IsRootOfSome next users) (label_of Surface over)
        → OneIn users (set_or c.surface.sets (Some over) 0)
    one_covered over inside held =
        let (user, among, reached) = one_reaches next users (label_of Surface over) held in (
          user,
          among,
          subst (λ set. Has set user) (stays_at c.surface.sets next.surface.sets stay.0.1 over inside).1
              ((holds_what_is_due next now user (there user among) (label_of Surface over)).0
              reached).1,
        )

    -- a file that is read has one of the users in its list, or was bare, and one holds its node now
    read_by : (surface : Option ℕ) (node : ℕ) → IfSome surface (λ n. n < length c.surface.sets)
        → ReachesAll next (IsRootOfSome next users) (label_of Access node ∷ surface_label surface)
        → OneIn users (set_or c.surface.sets surface (holders (outline c) node))
        ⊎ ((surface ≡ None) × OneIn users (holders (outline next) node))
    read_by None node inside held = inr (refl, one_holds node held.0)
    read_by (Some over) node inside held = inl (one_covered over inside held.1.0)

    pub file_read_by : ReachesAll next (IsRootOfSome next users) (protecting f)
        → OneIn users (list_at (outline c) (place_of_file f))
        ⊎ ((f.surface ≡ None) × OneIn users (holders (outline next) f.node))
    file_read_by held = read_by f.surface f.node placed.surface held

  module _ (user : ℕ) (low : user < length next.users) where
    access_held : (node : ℕ) → node < length c.base.sets → Has (holders (outline next) node) user
        → Reaches next (IsRootOf next user) (label_of Access node)
    access_held node inside held =
        (holds_what_is_due next now user low (label_of Access node)).1
        ((stays_at c.base.sets next.base.sets stay.0.0 node inside).0, held)

    listed_reads : (surface : Option ℕ) (node : ℕ) → node < length c.base.sets
        → IfSome surface (λ n. n < length c.surface.sets)
        → Within (set_or c.surface.sets surface (holders (outline c) node))
        (holders (outline c) node)
        → Has (set_or c.surface.sets surface (holders (outline c) node)) user
        → ReachesAll next (IsRootOf next user) (label_of Access node ∷ surface_label surface)
    listed_reads None node base covered inside listed =
        (access_held node base (stay.1 node user (inside user listed)), tt)
    listed_reads (Some over) node base covered inside listed =
        let at = stays_at c.surface.sets next.surface.sets stay.0.1 over covered in (
          access_held node base (stay.1 node user (inside user listed)),
          (
            (holds_what_is_due next now user low (label_of Surface over)).1
                (at.0, subst (λ set. Has set user) (sym at.1) listed),
            tt,
          ),
        )

    -- who was listed reads it
    pub file_listed_reads : Has (list_at (outline c) (place_of_file f)) user
        → ReachesAll next (IsRootOf next user) (protecting f)
    file_listed_reads listed =
        listed_reads f.surface f.node placed.base placed.surface placed.list listed

    bare_reads : (surface : Option ℕ) (node : ℕ) → surface ≡ None → node < length c.base.sets
        → Has (holders (outline next) node) user
        → ReachesAll next (IsRootOf next user) (label_of Access node ∷ surface_label surface)
    bare_reads None node bare base held = (access_held node base held, tt)
    bare_reads (Some over) node bare base held = absurd (cc)

    -- and so does who holds its node now, where it was bare
    pub file_bare_reads : f.surface ≡ None → Has (holders (outline next) f.node) user
        → ReachesAll next (IsRootOf next user) (protecting f)
    file_bare_reads bare held = bare_reads f.surface f.node bare placed.base held

-- ---- together with the server

not_surface : (node : ℕ) → (label_of Access node).kind ≡ Surface → ⊥
not_surface node is = absurd (cc)

-- surface keys lead to no other ones
no_surface : (c : Catalogue) (users : List ℕ) (label : Label)
    → Reaches c (IsGiven true c users) label → (label.kind ≡ Surface → ⊥)
    → Reaches c (IsRootOfSome c users) label
no_surface c users label (given l (inl root)) other = given label root
no_surface c users label (given l (inr is)) other = absurd (other is)
no_surface c users label (along one next before leads) other =
    along one label
    (no_surface c users one before
    (λ is. other (surface_next c one.kind label.kind one.number label.number is leads)))
    leads

pub with_server : (c : Catalogue) (users : List ℕ) (label : Label)
    → Reaches c (IsRootOfSome c users) label → Reaches c (IsGiven true c users) label
with_server c users label (given l root) = given label (inl root)
with_server c users label (along one next before leads) =
    along one label (with_server c users one before) leads

surface_given : (c : Catalogue) (users : List ℕ) (surface : Option ℕ)
    → ReachesAll c (IsGiven true c users) (surface_label surface)
surface_given c users None = tt
surface_given c users (Some over) = (given (label_of Surface over) (inr refl), tt)

-- ---- a history and one of its moments

module _ (master : List ℕ) (g : SealedHistory) (fit : IsSealed g) (users : List ℕ) (file : ℕ)
    (are : AreUsers g users) where
  low : (user : ℕ) → Contains users user → user < length (catalogue_of master g).users
  low user among =
      subst (λ n. user < n) (sym (ap length (users-shown master g fit))) (are user among)

  module _ (before : List SealedUpdate) (moment : IsMoment g before) (f : Filed)
      (stood : StoodSo master g before file f) where
    was : IsSealed (as_of g before)
    was = sealed_then g before fit moment

    place : place_in (known_at g before) file ≡ place_of_file f
    place = stood_place master (as_of g before) was file f stood

    there : HasFile (known_at g before) file
    there = stood_there master (as_of g before) was file f stood

    placed : IsPlaced (catalogue_of master (as_of g before)) f
    placed = (shown_is_sound master (as_of g before) was).files file f stood

    stays : StaysIn (catalogue_of master (as_of g before)) (catalogue_of master g)
    stays = moment_stays master g before fit moment

    -- the holders now of the node that the file had
    now_holds : (user : ℕ) → Has (holders (outline (catalogue_of master g)) f.node) user
        → Has (holders (layers_of (outer_of g)) (place_in (known_at g before) file).node) user
    now_holds user held =
        subst (λ (p : Place). Has (holders (layers_of (outer_of g)) p.node) user) (sym place)
        (subst (λ (y : Layers). Has (holders y f.node) user)
        (history_is_shown master (catalogue_of master g) g (fit, refl)).layers held)

    holds_now : (user : ℕ)
        → Has (holders (layers_of (outer_of g)) (place_in (known_at g before) file).node) user
        → Has (holders (outline (catalogue_of master g)) f.node) user
    holds_now user held =
        subst (λ (y : Layers). Has (holders y f.node) user)
        (sym (history_is_shown master (catalogue_of master g) g (fit, refl)).layers)
        (subst (λ (p : Place). Has (holders (layers_of (outer_of g)) p.node) user) place held)

    held_node : OneIn users (holders (outline (catalogue_of master g)) f.node)
        → HoldsBaseNode g users file
    held_node one = (before, moment, there, (one.0, one.1, now_holds one.0 one.2))

    -- a holder of the base node that the file had at any moment is one of this
    node_held : (held : HoldsBaseNode g users file)
        → Has (holders (outline (catalogue_of master g)) f.node) held.3.0
    node_held (other, second, still, (user, among, holds)) =
        holds_now user
        (subst (λ node. Has (holders (layers_of (outer_of g)) node) user)
        (base_node_is_one g other before file second moment still there) holds)

    listed_then : OneIn users
        (list_at (outline (catalogue_of master (as_of g before))) (place_of_file f))
        → IsListedAt g before users file
    listed_then one =
        (one.0, one.1, listed-shown master (as_of g before) one.0 file f was stood ∙ one.2)

    -- who can read it was listed, or it was bare and who can holds its node
    read_then : ReachesAll (catalogue_of master g) (IsRootOfSome (catalogue_of master g) users)
        (protecting f)
        → WasListedIn g users file ⊎ (HoldsBaseNode g users file × WasBare g file)
    read_then held =
        elim
        (file_read_by (catalogue_of master (as_of g before)) (catalogue_of master g) stays
        (shown_is_sound master g fit) f placed users low held) [
          | inl one ↦ inl (before, moment, listed_then one)
          | inr bare ↦ inr (
            held_node bare.1,
            (before, moment, (there, ap (λ (p : Place). p.surface) place ∙ bare.0)),
          )
        ]

    reads_listed : (user : ℕ) → Contains users user
        → is_listed (matrix_of (known_at g before)) user file ≡ true
        → ReachesAll (catalogue_of master g) (IsRootOf (catalogue_of master g) user) (protecting f)
    reads_listed user among listed =
        file_listed_reads (catalogue_of master (as_of g before)) (catalogue_of master g) stays
        (shown_is_sound master g fit) f placed user (low user among)
        (sym (listed-shown master (as_of g before) user file f was stood) ∙ listed)

    reads_bare : (user : ℕ) → Contains users user
        → (place_in (known_at g before) file).surface ≡ None
        → Has (holders (outline (catalogue_of master g)) f.node) user
        → ReachesAll (catalogue_of master g) (IsRootOf (catalogue_of master g) user) (protecting f)
    reads_bare user among bare held =
        file_bare_reads (catalogue_of master (as_of g before)) (catalogue_of master g) stays
        (shown_is_sound master g fit) f placed user (low user among)
        (sym (ap (λ (p : Place). p.surface) place) ∙ bare) held

-- ---- the laws

pub reads_what_was_listed_or_bare : ReadsWhatWasListedOrBare
reads_what_was_listed_or_bare master g users file fit are = (
  λ (before, f, moment, stood, held). read_then master g fit users file are before moment f stood held,
  elim [
    | inl (before, moment, (user, among, listed)) ↦
        let (f, stood) =
        there_stood master (as_of g before) (sealed_then g before fit moment) file
        (listed_there (matrix_of (known_at g before)) user file listed) in (
          before,
          f,
          moment,
          stood,
          all_reach_each (catalogue_of master g) users user (protecting f) among
              (reads_listed master g fit users file are before moment f stood user among listed),
        )
    | inr (held, (before, moment, (there, bare))) ↦
        let (f, stood) =
        there_stood master (as_of g before) (sealed_then g before fit moment) file there in (
          before,
          f,
          moment,
          stood,
          all_reach_each (catalogue_of master g) users held.3.0 (protecting f) held.3.1
              (reads_bare master g fit users file are before moment f stood held.3.0 held.3.1 bare
              (node_held master g fit users file are before moment f stood held)),
        )
  ],
)

-- ---- Full

full_wants : (h : History) (p : Place) (o : Option File) (sets : List ℕ) → h.mode ≡ Full
    → is_some o ≡ true
    → surface_at sets (want_of h p o) ≡ None → ⊥
full_wants h p None sets full some none = absurd (cc)
full_wants h p (Some f) sets full some none =
    let wanted : want_of h p (Some f) ≡ Some f.list =
    ap (λ (mode : Mode). wanted_surface mode f.list (holders (layers_of h) p.node)) full in
    let is : Some (node_for sets f.list) ≡ None =
    ap (λ want. surface_at sets want) (sym wanted) ∙ none in
    absurd (cc)

pub none_is_bare_in_full : NoneIsBareInFull
none_is_bare_in_full g before file full (there, bare) =
    let h : History = known_at g before in
    full_wants h (place_in h file) (living_at (matrix_of h).files file) (layers_of h).surface full
    there
    (sym (surface_is_wanted h file there) ∙ bare)

pub full_reads_what_was_listed : FullReadsWhatWasListed
full_reads_what_was_listed master g users file fit are full =
    let either = reads_what_was_listed_or_bare master g users file fit are in (
      λ can. elim (either.0 can) [
        | inl listed ↦ listed
        | inr (held, (before, moment, bare)) ↦
            absurd (none_is_bare_in_full g before file full bare)
      ],
      λ listed. either.1 (inl listed),
    )

-- ---- the server

pub server_reads_what_is_held : ServerReadsWhatIsHeld
server_reads_what_is_held master g users file fit are = (
  λ (before, f, moment, stood, held).
      held_node master g fit users file are before moment f stood
      (one_holds (catalogue_of master (as_of g before)) (catalogue_of master g)
      (stays master g fit users file are before moment f stood) (shown_is_sound master g fit) f
      (placed master g fit users file are before moment f stood) users
      (low master g fit users file are) f.node
      (no_surface (catalogue_of master g) users (label_of Access f.node) held.0
      (not_surface f.node))),
  λ (before, moment, there, (user, among, holds)).
      let (f, stood) =
      there_stood master (as_of g before) (sealed_then g before fit moment) file there in
      let now : Has (holders (outline (catalogue_of master g)) f.node) user =
      holds_now master g fit users file are before moment f stood user holds in
      let base = placed master g fit users file are before moment f stood in (
        before,
        f,
        moment,
        stood,
        (
          with_server (catalogue_of master g) users (label_of Access f.node)
              (all_reach (catalogue_of master g) users user (label_of Access f.node) among
              (access_held (catalogue_of master (as_of g before)) (catalogue_of master g)
              (stays master g fit users file are before moment f stood)
              (shown_is_sound master g fit) f base user
              (low master g fit users file are user among) f.node base.base now)),
          surface_given (catalogue_of master g) users f.surface,
        ),
      ),
)

pub access_keys_are_of_holders : AccessKeysAreOfHolders
access_keys_are_of_holders master g users before file f fit are moment stood =
    let c : Catalogue = catalogue_of master (as_of g before) in
    let next : Catalogue = catalogue_of master g in
    let stay = stays master g fit users file are before moment f stood in
    let base = placed master g fit users file are before moment f stood in
    let there = low master g fit users file are in
    let shown = (history_is_shown master next g (fit, refl)).layers in (
      λ held.
          let (user, among, holds) =
          one_holds c next stay (shown_is_sound master g fit) f base users there f.node
          (no_surface next users (label_of Access f.node) held (not_surface f.node)) in
          (user, among, subst (λ (y : Layers). Has (holders y f.node) user) shown holds),
      λ (user, among, holds).
          with_server next users (label_of Access f.node)
          (all_reach next users user (label_of Access f.node) among
          (access_held c next stay (shown_is_sound master g fit) f base user (there user among) f.node
          base.base
          (subst (λ (y : Layers). Has (holders y f.node) user) (sym shown) holds))),
    )

-- ---- several users

only : (user other : ℕ) → Contains (user ∷ []) other → user ≡ other
only user other there = elim (Contains-cases user [] other there) [
  | inl is ↦ is
  | inr none ↦ absurd (Contains-none other none)
]

alone : (g : SealedHistory) (users : List ℕ) (user : ℕ) → AreUsers g users → Contains users user
    → AreUsers g (user ∷ [])
alone g users user are among other there =
    subst (λ u. u < length (matrix_of (outer_of g)).users) (only user other there) (are user among)

listed_alone : (g : SealedHistory) (users : List ℕ) (file : ℕ)
    → WasListedIn g users file
    ↔ ((user : ℕ) × Contains users user × WasListedIn g (user ∷ []) file)
listed_alone g users file = (
  λ (before, moment, (user, among, listed)).
      (user, among, (before, moment, (user, Contains-first user [], listed))),
  λ (user, among, (before, moment, (other, there, listed))). (
    before,
    moment,
    (
      user,
      among,
      subst (λ u. is_listed (matrix_of (known_at g before)) u file ≡ true)
          (sym (only user other there)) listed,
    ),
  ),
)

held_alone : (g : SealedHistory) (users : List ℕ) (file : ℕ)
    → HoldsBaseNode g users file
    ↔ ((user : ℕ) × Contains users user × HoldsBaseNode g (user ∷ []) file)
held_alone g users file = (
  λ (before, moment, there, (user, among, holds)).
      (user, among, (before, moment, there, (user, Contains-first user [], holds))),
  λ (user, among, (before, moment, there, (other, one, holds))). (
    before,
    moment,
    there,
    (
      user,
      among,
      subst
          (λ u. Has (holders (layers_of (outer_of g)) (place_in (known_at g before) file).node) u)
          (sym (only user other one)) holds,
    ),
  ),
)

pub coalition_reads_as_one : CoalitionReadsAsOne
coalition_reads_as_one true master g users file fit are =
    let all = server_reads_what_is_held master g users file fit are in (
      λ can.
          let (user, among, held) = (held_alone g users file).0 (all.0 can) in (
            user,
            among,
            (server_reads_what_is_held master g (user ∷ []) file fit
                (alone g users user are among)).1 held,
          ),
      λ (user, among, can).
          all.1
          ((held_alone g users file).1 (
            user,
            among,
            (server_reads_what_is_held master g (user ∷ []) file fit
                (alone g users user are among)).0 can,
          )),
    )
coalition_reads_as_one false master g users file fit are =
    let all = reads_what_was_listed_or_bare master g users file fit are in (
      λ can. elim (all.0 can) [
        | inl listed ↦
            let (user, among, was) = (listed_alone g users file).0 listed in (
              user,
              among,
              (reads_what_was_listed_or_bare master g (user ∷ []) file fit
                  (alone g users user are among)).1 (inl was),
            )
        | inr bare ↦
            let (user, among, held) = (held_alone g users file).0 bare.0 in (
              user,
              among,
              (reads_what_was_listed_or_bare master g (user ∷ []) file fit
                  (alone g users user are among)).1 (inr (held, bare.1)),
            )
      ],
      λ (user, among, can).
          elim
          ((reads_what_was_listed_or_bare master g (user ∷ []) file fit
          (alone g users user are among)).0 can) [
            | inl was ↦ all.1 (inl ((listed_alone g users file).1 (user, among, was)))
            | inr bare ↦ all.1 (inr ((held_alone g users file).1 (user, among, bare.0), bare.1))
          ],
    )
