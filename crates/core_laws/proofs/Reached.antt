-- What holds of the channels and of the done word in every reached state.
use Rattle.std.proofs.Common.{◌≡◌, ℕ, zero, suc, ◌<◌, Bool, true, false, cond, List, [], ◌∷◌, length, Some, refl, sym, ◌∙◌, ap, subst, arith, slice_get}
use Rattle.std.specs.Prelude.{filter}
use Rattle.std.proofs.lemmas.List.Sums.{count_by-le-length, length-filter}
use Rattle.std.proofs.lemmas.Option.{same_Some, get_or_from_slice_get}
use Rattle.torus.specs.declared.step.Step.{Step}
use Rattle.one_order.specs.Following.{is_finished}
use Rattle.channel_number.specs.Order.{channel_count}
use Rattle.flit_buffer.specs.Channel.{IsChannelState}
use Rattle.flit_buffer.specs.Surroundings.{ring}
use Rattle.one_order.specs.Events.{order_after}
use Rattle.tile.specs.Tile.{TileState}
use Rattle.core_laws.specs.Core.{Load, State, design_of}
use Rattle.core_laws.specs.Runs.{IsAcceptedLoad}
use Rattle.core_laws.specs.Reports.{CountsReports}
use Rattle.wormhole.specs.Words.{Words}
use Rattle.wormhole.specs.Routes.{Routes}
use Rattle.core_laws.specs.Mirrors.{Mirrors}
use Rattle.core_laws.specs.Network.{net_of}
use Rattle.core_laws.specs.Noted.{noted}
use Rattle.core_laws.proofs.Histories.{state_at, event_at}
use Rattle.core_laws.proofs.EveryRun.{holds_in}
use Rattle.core_laws.proofs.Stands.{Stands, tile_at, no_tile}

passes_by : {A : Type 0} (test : A → Bool) (y : A) (xs : List A) (x : A) (b : Bool) → test y ≡ b
    → length (cond b (y ∷ filter test xs) (filter test xs)) ≡ suc (length xs) → (i : ℕ) → slice_get (y ∷ xs) i ≡ Some x
    → (length (filter test xs) ≡ length xs → (j : ℕ) → slice_get xs j ≡ Some x → test x ≡ true) → test x ≡ true
passes_by test y xs x true is h zero there later = ap test (sym (same_Some y x there)) ∙ is
passes_by test y xs x true is h (suc i) there later = later (omega (arith, h)) i there
passes_by test y xs x false is h i there later =
    let most = count_by-le-length test xs in
    let count = length-filter test xs in absurd (omega (arith, h, most, count))

-- where as many pass as there are, each passes
passes : {A : Type 0} (test : A → Bool) (xs : List A) (x : A) → length (filter test xs) ≡ length xs → (i : ℕ) → slice_get xs i ≡ Some x → test x ≡ true
passes test [] x h i there = absurd (cc)
passes test (y ∷ xs) x h i there = passes_by test y xs x (test y) refl h i there (λ k j z. passes test xs x k j z)

module _ (l : Load) (ok : IsAcceptedLoad l) (steps : List Step) (n : ℕ) where
  abbrev s : State
  s = state_at l steps n

  st : Stands (design_of l) l.tags l.opening s (noted l steps n) (order_after (event_at l steps) n)
  st = (holds_in l ok steps n).stands

  -- each channel of the torus is there
  pub channels_there : length s.around.rings ≡ channel_count l.shape
  channels_there = st.mirrors.count

  -- the flits, the credits held and those returning of each channel add up to the depth
  pub credits_add_up : (x : ℕ) → x < channel_count l.shape → IsChannelState l.depth (ring s.around.rings x).channel
  credits_add_up x within = (st.rings x (subst (λ (k : ℕ). x < k) (sym st.mirrors.count) within)).channel

  at_tile : (t : ℕ) (tile : TileState) → slice_get s.tiles t ≡ Some tile → tile_at s t ≡ tile
  at_tile t tile there = get_or_from_slice_get s.tiles t tile no_tile there

  finished_only : (t : ℕ) (tile : TileState) → slice_get s.tiles t ≡ Some tile → tile.processor.reported ≡ true
      → is_finished tile.processor.operations.following ≡ true
  finished_only t tile there reports =
      let is = at_tile t tile there in
      subst (λ (w : TileState). is_finished w.processor.operations.following ≡ true) is
      (st.reported.finished t (ap (λ (w : TileState). w.processor.reported) is ∙ reports))

  all_reported : (t : ℕ) (tile : TileState) → slice_get s.tiles t ≡ Some tile → tile.processor.seen ≡ true
      → (u : ℕ) (other : TileState) → slice_get s.tiles u ≡ Some other → other.processor.reported ≡ true
  all_reported t tile there sees u other here =
      let reports : TileState → Bool = λ w. w.processor.reported in
      let saw = st.reported.seen t (ap (λ (w : TileState). w.processor.seen) (at_tile t tile there) ∙ sees) in
      let all : length (filter reports s.tiles) ≡ length s.tiles =
      length-filter reports s.tiles ∙ (sym st.reported.counts ∙ (saw ∙ sym st.tiles)) in
      passes reports s.tiles other all u here

  -- The done word counts the processors that have reported.
  pub reports_counted : CountsReports (design_of l) s
  reports_counted = record { counts = st.reported.counts; finished = finished_only; seen = all_reported }

  -- The network that is noted mirrors the machine, and no two packets mix or lose their way in it.
  pub mirrors : Mirrors (design_of l) s (noted l steps n).net.lines
  mirrors = st.mirrors

  pub words : Words (net_of (design_of l)) (noted l steps n).net
  words = st.lines

  pub routes : Routes (net_of (design_of l)) (noted l steps n).net
  routes = st.routes
