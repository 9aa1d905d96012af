-- What comes, turn by turn.
use Rattle.std.proofs.Common.{◌≡◌, ◌⊎◌, inl, inr, ℕ, zero, suc, ◌+◌, List, [], ◌∷◌, ◌++◌, Bool, true, false, IsTrue, ◌||◌, map, cond, ◌==◌, None, Result, Err, refl, sym, ap, ◌∙◌, append_assoc, append-nil, subst, arith}
use Rattle.std.proofs.lemmas.Bool.Decides.{nat_tests}
use Rattle.gl_outside.specs.Fault.{next_call}
use Rattle.gl_outside.specs.Link.{Arrival, Bytes, Tick, Exchange, Gave}
use Rattle.gl_serve.specs.declared.session.SessionState.{SessionState}
use Rattle.gl_serve.specs.declared.session.SessionError.{SessionError}
use Rattle.gl_serve.specs.declared.session.SessionError.TheVariants.{Stopped, NoMemory}
use Rattle.gl_serve.specs.declared.session.Progress.{Progress}
use Rattle.gl_serve.specs.declared.settings.ServeEnd.{ServeEnd}
use Rattle.gl_serve.specs.declared.settings.Serving.{Serving}
use Rattle.gl_serve.specs.declared.streams.Stream.{Stream}
use Rattle.gl_serve.specs.Rules.{Rules}
use Rattle.gl_serve.specs.Streams.{stream}
use Rattle.gl_serve.specs.Kept.{fed, kept_of, payloads_of, rest_of}
use Rattle.gl_serve.specs.Works.{Work, Take, Handle, works, script}
use Rattle.gl_serve.specs.Doing.{Came}
use Rattle.gl_serve.specs.Running.{Stand, Ran, Went, end_of}
use Rattle.gl_serve.specs.Progress.{Tracks, Turned, course_of_turn}
use Rattle.gl_serve.specs.Serves.{Serves, first_session_state, course_of, calls_after}
use Rattle.gl_serve.proofs.KeptStreams.{fed_kept, fresh_is}
use Rattle.gl_serve.proofs.WorkingLaws.{does_one, went_then, went_is}

-- ---- streams

pub stream-append : (conn : ℕ) (xs ys : List Arrival) → stream conn (xs ++ ys) ≡ stream conn xs ++ stream conn ys
stream-append conn [] ys = refl
stream-append conn (Bytes from bytes ∷ xs) ys = ap (λ (t : List ℕ). cond (from == conn) bytes [] ++ t) (stream-append conn xs ys) ∙ sym (append_assoc (cond (from == conn) bytes []) (stream conn xs) (stream conn ys))
stream-append conn (Tick ∷ xs) ys = stream-append conn xs ys

pub same_self : (a : ℕ) → (a == a) ≡ true
same_self a = grind (arith, nat_tests)

pub same_or : (a b : ℕ) → (a ≡ b) ⊎ ((a ≡ b → ⊥) × ((a == b) ≡ false))
same_or a b = grind (arith, nat_tests)

-- A piece of a connection's stream.
pub stream_on : (conn : ℕ) (before : List Arrival) (bytes : List ℕ) → stream conn (before ++ Bytes conn bytes ∷ []) ≡ stream conn before ++ bytes
stream_on conn before bytes =
    stream-append conn before (Bytes conn bytes ∷ [])
    ∙ ap (λ (t : List ℕ). stream conn before ++ t) (append-nil (cond (conn == conn) bytes []) ∙ ap (λ (b : Bool). cond b bytes []) (same_self conn))

-- A piece of another's.
pub stream_off : (conn from : ℕ) (before : List Arrival) (bytes : List ℕ) → (from == conn) ≡ false → stream conn (before ++ Bytes from bytes ∷ []) ≡ stream conn before
stream_off conn from before bytes apart =
    stream-append conn before (Bytes from bytes ∷ []) ∙ ap (λ (b : Bool). stream conn before ++ (cond b bytes [] ++ [])) apart ∙ append-nil (stream conn before)

pub stream_tick : (conn : ℕ) (before : List Arrival) → stream conn (before ++ Tick ∷ []) ≡ stream conn before
stream_tick conn before = stream-append conn before (Tick ∷ []) ∙ append-nil (stream conn before)

-- ---- what is kept

pub tracks_on : (kept now : ℕ → Stream) (before : List Arrival) (conn : ℕ) (bytes : List ℕ) → Tracks kept before
    → now conn ≡ rest_of (fed bytes (kept conn)) → ((other : ℕ) → (conn ≡ other → ⊥) → now other ≡ kept other)
    → Tracks now (before ++ Bytes conn bytes ∷ [])
tracks_on kept now before conn bytes tracks here there = λ other. elim (same_or conn other) [
  | inl e ↦ subst (λ (o : ℕ). now o ≡ kept_of (stream o (before ++ Bytes conn bytes ∷ []))) e
      (here ∙ ap (λ (s : Stream). rest_of (fed bytes s)) (tracks conn) ∙ (fed_kept (stream conn before) bytes).1 ∙ ap kept_of (sym (stream_on conn before bytes)))
  | inr apart ↦ there other apart.0 ∙ tracks other ∙ ap kept_of (sym (stream_off other conn before bytes apart.1))
]

pub tracks_tick : (kept : ℕ → Stream) (before : List Arrival) → Tracks kept before → Tracks kept (before ++ Tick ∷ [])
tracks_tick kept before tracks = λ conn. tracks conn ∙ ap kept_of (sym (stream_tick conn before))

pub tracks_still : (kept : ℕ → Stream) (before : List Arrival) → Tracks kept before → Tracks kept (before ++ [])
tracks_still kept before tracks = subst (λ (t : List Arrival). Tracks kept t) (sym (append-nil before)) tracks

-- The payloads that a piece makes whole.
pub bytes_works : (peers : List (List ℕ)) (kept : ℕ → Stream) (before : List Arrival) (conn : ℕ) (bytes : List ℕ) → Tracks kept before
    → works peers before (Bytes conn bytes) ≡ Take (Bytes conn bytes) ∷ map (Handle conn) (payloads_of (fed bytes (kept conn)))
bytes_works peers kept before conn bytes tracks =
    ap (λ (t : List (List ℕ)). Take (Bytes conn bytes) ∷ map (Handle conn) t)
    (fresh_is (stream conn before) bytes ∙ sym (fed_kept (stream conn before) bytes).0 ∙ ap (λ (s : Stream). payloads_of (fed bytes s)) (sym (tracks conn)))

-- ---- a turn

ran_take : {S Payload : Type 0} (honest : Bool) (rules : Rules S Payload) (settings : Serving) (from : Stand S) (arrival : Arrival) (past : List Exchange)
    → from.moment.session_state.over ≡ None → (IsTrue honest → past ≡ from.past ++ Gave arrival ∷ []) → Ran honest rules settings from (Take arrival ∷ []) (arrival ∷ []) (record { moment = from.moment; past = past; lost = from.lost }) [] []
ran_take honest rules settings from arrival past going h = record {
  done = Take arrival ∷ [];
  content = (Came arrival ∷ []) ∷ [];
  exchanges = Gave arrival ∷ [];
  works = refl;
  does = does_one rules settings from.moment from.moment (Take arrival) (Came arrival ∷ []) going (refl, refl);
  history = h;
  lines = refl;
  cut = omega arith;
  came = refl;
  lost = refl;
}

-- Something came, and then its works went so.
pub went_came : {S Payload : Type 0} (honest : Bool) (rules : Rules S Payload) (settings : Serving) (before : List Arrival) (arrival : Arrival) (more : List Work) (from to : Stand S) (past : List Exchange) (result : Result (Unit {0}) SessionError)
    → from.moment.session_state.over ≡ None → works settings.peers.now before arrival ≡ Take arrival ∷ more → (IsTrue honest → past ≡ from.past ++ Gave arrival ∷ [])
    → Went honest rules settings (record { moment = from.moment; past = past; lost = from.lost }) more [] to result
    → Went honest rules settings from (script settings.peers.now before (arrival ∷ [])) (arrival ∷ []) to result
went_came {S} honest rules settings before arrival more from to past result going is h went =
    let mid : Stand S = record { moment = from.moment; past = past; lost = from.lost } in
    went_is honest rules settings from to (Take arrival ∷ [] ++ more) (script settings.peers.now before (arrival ∷ [])) (arrival ∷ []) result
    (append-nil (works settings.peers.now before arrival) ∙ is)
    (went_then honest rules settings from mid to (Take arrival ∷ []) more (arrival ∷ []) [] result (ran_take honest rules settings from arrival past going h) went)

-- Nothing came.
pub ran_still : {S Payload : Type 0} (honest : Bool) (rules : Rules S Payload) (settings : Serving) (from : Stand S) (past : List Exchange)
    → (IsTrue honest → past ≡ from.past ++ []) → Ran honest rules settings from [] [] (record { moment = from.moment; past = past; lost = from.lost }) [] []
ran_still honest rules settings from past h = record {
  done = [];
  content = [];
  exchanges = [];
  works = refl;
  does = (refl, refl);
  history = h;
  lines = refl;
  cut = omega arith;
  came = refl;
  lost = refl;
}

-- ---- turns one after the other

script-more : (peers : List (List ℕ)) (before came more : List Arrival) → script peers before (came ++ more) ≡ script peers before came ++ script peers (before ++ came) more
script-more peers before [] more = ap (λ (t : List Arrival). script peers t more) (sym (append-nil before))
script-more peers before (x ∷ came) more =
    ap (λ (t : List Work). works peers before x ++ t) (script-more peers (before ++ x ∷ []) came more)
    ∙ sym (append_assoc (works peers before x) (script peers (before ++ x ∷ []) came) (script peers (before ++ x ∷ [] ++ came) more))
    ∙ ap (λ (t : List Arrival). works peers before x ++ script peers (before ++ x ∷ []) came ++ script peers t more) (append_assoc before (x ∷ []) came)

-- All was done of what came, and then a turn.
pub went_on : {S Payload : Type 0} (honest : Bool) (rules : Rules S Payload) (settings : Serving) (from mid to : Stand S) (came : List Arrival) (ahead now_ahead : List Arrival) (kept : ℕ → Stream) (result : Result Progress SessionError)
    → Ran honest rules settings from (script settings.peers.now [] came) came mid [] [] → (t : Turned honest rules settings came mid ahead to now_ahead kept result)
    → Went honest rules settings from (script settings.peers.now [] (came ++ t.came)) (came ++ t.came) to (course_of_turn result)
went_on honest rules settings from mid to came ahead now_ahead kept result p t =
    went_is honest rules settings from to (script settings.peers.now [] came ++ script settings.peers.now came t.came) (script settings.peers.now [] (came ++ t.came)) (came ++ t.came) (course_of_turn result)
    (script-more settings.peers.now [] came t.came)
    (went_then honest rules settings from mid to (script settings.peers.now [] came) (script settings.peers.now came t.came) came t.came (course_of_turn result) p t.went)

pub taken_on : (came more first mid now : List Arrival) → first ≡ came ++ mid → mid ≡ more ++ now → first ≡ came ++ more ++ now
taken_on came more first mid now p q = p ∙ ap (λ (t : List Arrival). came ++ t) q ∙ sym (append_assoc came more now)

-- ---- ends

pub turned_err : {S Payload : Type 0} (honest : Bool) (rules : Rules S Payload) (settings : Serving) (before : List Arrival) (from : Stand S) (ahead : List Arrival) (to : Stand S) (now_ahead : List Arrival) (kept : ℕ → Stream) (came : List Arrival) (session_error : SessionError) (result : Result Progress SessionError)
    → result ≡ Err session_error → Went honest rules settings from (script settings.peers.now before came) came to (Err session_error) → (IsTrue honest → ahead ≡ came ++ now_ahead)
    → Turned honest rules settings before from ahead to now_ahead kept result
turned_err {S} honest rules settings before from ahead to now_ahead kept came session_error result bad went taken =
    subst (λ (r : Result Progress SessionError). Turned honest rules settings before from ahead to now_ahead kept r) (sym bad)
    (record { came = came; went = went; tracks = tt; taken = taken })

halted : (session_error : SessionError) → course_of (Err (end_of session_error)) ≡ Err session_error
halted Stopped = refl
halted NoMemory = refl

pub serves_err : {S Payload : Type 0} (honest : Bool) (rules : Rules S Payload) (settings : Serving) (first : S) (past : List Exchange) (ahead : List Arrival) (last : S) (now_past : List Exchange) (now_ahead : List Arrival) (came : List Arrival) (session_state : SessionState) (lost : ℕ) (session_error : SessionError) (result : Result (ℕ × ℕ) ServeEnd)
    → result ≡ Err (end_of session_error)
    → Went honest rules settings (record { moment = record { node = first; session_state = first_session_state }; past = past; lost = 0 }) (script settings.peers.now [] came) came (record { moment = record { node = last; session_state = session_state }; past = now_past; lost = lost }) (Err session_error)
    → (IsTrue honest → ahead ≡ came ++ now_ahead) → Serves honest rules settings first past ahead last now_past now_ahead result
serves_err {S} honest rules settings first past ahead last now_past now_ahead came session_state lost session_error result bad went taken =
    let from : Stand S = record { moment = record { node = first; session_state = first_session_state }; past = past; lost = 0 } in
    let to : Stand S = record { moment = record { node = last; session_state = session_state }; past = now_past; lost = lost } in
    subst (λ (r : Result (ℕ × ℕ) ServeEnd). Serves honest rules settings first past ahead last now_past now_ahead r) (sym bad) (record {
      came = came;
      session_state = session_state;
      lost = lost;
      went = subst (λ (r : Result (Unit {0}) SessionError). Went honest rules settings from (script settings.peers.now [] came) came to r) (sym (halted session_error)) went;
      taken = taken;
      counts = tt;
    })

-- ---- counts of calls

calls_more : (n calls : ℕ) → calls_after n (next_call calls) ≡ next_call (calls_after n calls)
calls_more zero calls = refl
calls_more (suc n) calls = calls_more n (next_call calls)

pub calls_on : (n before mid now : ℕ) → mid ≡ calls_after n before → now ≡ next_call mid → now ≡ calls_after (n + 1) before
calls_on n before mid now p q =
    let e : n + 1 ≡ suc n = omega arith in
    q ∙ ap next_call p ∙ sym (calls_more n before) ∙ ap (λ (k : ℕ). calls_after k before) (sym e)

pub or_no : (b : Bool) → (b || false) ≡ b
or_no true = refl
or_no false = refl
