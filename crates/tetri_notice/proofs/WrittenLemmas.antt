-- Events as an import writes them: their tokens are read as their members.
use Rattle.std.proofs.Common.{◌≡◌, false, ℕ, ℤ, pos, negsuc, ◌+◌, ◌-◌, ◌<◌, ◌≤◌, List, [], ◌∷◌, length, Ok, Some, None, Option, refl, sym, ap, ◌∙◌, arith}
use Rattle.std.specs.Prelude.{IfSome, codes, option_map, unwrap_or}
use Rattle.std.specs.Borrow.{Bor}
use Rattle.std.specs.Str.{IsUtf8}
use Rattle.std.specs.Fmt.{signed_decimal}
use Rattle.json.specs.Token.{Token}
use Rattle.json.specs.Lex.{tokens}
use Rattle.json.specs.Json.{members, parse_map, value}
use Rattle.json.proofs.Grammar.{value_is, value-begin_object}
use Rattle.serde_json.specs.Data.{Data, object, string, Members, no_members, put}
use Rattle.serde_json.specs.Find.{of_integer}
use Rattle.serde_json.specs.Read.{number_of, of_json, converted, read}
use Rattle.serde_json.proofs.Numbers.{number_of-decimal, number_of-negative}
use Rattle.tetri_notice.proofs.MemberLemmas.{member_read, members_over, of_object, whole_read}
use Rattle.tetri_notice.proofs.ObjectLemmas.{is_json}
use Rattle.tetri_notice.specs.Asks.{AskText, ask_at, ask_keys, class_named, worth_in}
use Rattle.tetri_notice.specs.Fields.{late_of, name_in, number_in, object_in, slot_in}
use Rattle.tetri_notice.specs.Objects.{Notice, arrives, asked, cancels, arrival_notice, event_in, event_key, notice}
use Rattle.tetri_notice.specs.declared.event.Notice as code
use Rattle.tetri_notice.specs.declared.written.WrittenAsk.{WrittenAsk}
use Rattle.tetri_notice.specs.declared.written.WrittenCancel.{WrittenCancel}
use Rattle.tetri_notice.specs.declared.written.WrittenJob.{WrittenJob}
use Rattle.tetri_notice.specs.Tokens.{IsSmall}
use Rattle.tetri_notice.specs.Written.{ask_members, cancel_members, event_on, job_members, whole, with_due, with_set, AreMembers, IsValue, Puts, SaysAsk, SaysEvent, TextSays}
use Rattle.tetri_request.specs.declared.ask.Class.{Class}

pub is_number : (old new : List Token) (s : List ℕ) (z : ℤ) → old ≡ Token.number s ∷ new → number_of s ≡ Some (of_integer z) → IsValue (whole z) old new
is_number old new s z is e = (rw is (omega arith), λ depth. ap (converted of_json) (ap (value depth) is ∙ value_is depth _) ∙ rw e refl)

pub is_string : (old new : List Token) (s : List ℕ) → old ≡ Token.string s ∷ new → IsValue (string s) old new
is_string old new s is = (rw is (omega arith), λ depth. ap (converted of_json) (ap (value depth) is ∙ value_is depth _))

-- a key and its value
pub puts_member : (low : ℕ) (k : List ℕ) (d : Data) (old mid new : List Token) → old ≡ Token.key k ∷ mid → IsValue d mid new → Puts low (put k d) old new
puts_member low k d old mid new is v =
    let longer : length old ≡ 1 + length mid = rw is (omega arith) in (
      omega (arith, v.0),
      λ depth n found deep enough. (n - 1, omega (arith, v.0), member_read (value depth) found n k old mid new d (omega arith) (rw is refl) (v.1 depth)),
    )

-- nothing is put, and nothing is read
pub puts_none : (low : ℕ) (old new : List Token) → new ≡ old → Puts low (λ ms. ms) old new
puts_none low old new is = (rw is (omega arith), λ depth n found deep enough. (n, rw is enough, rw is refl))

pub puts_both : (low : ℕ) (f g : Members → Members) (a b c : List Token) → Puts low f a b → Puts low g b c → Puts low (λ ms. g (f ms)) a c
puts_both low f g a b c p q = (
  omega (arith, p.0, q.0),
  λ depth n found deep enough. let first = p.1 depth n found deep enough in let second = q.1 depth first.0 (f found) deep first.1 in (second.0, second.1, first.2 ∙ second.2),
)

-- what holds at each depth
pub puts_within : (f : Members → Members) (a b : List Token) → Puts 0 f a b → Puts 1 f a b
puts_within f a b p = (p.0, λ depth n found deep enough. p.1 depth n found (omega arith) enough)

pub are_members : (low : ℕ) (f : Members → Members) (a b c : List Token) → Puts low f a b → b ≡ Token.end_object ∷ c → AreMembers low (f no_members) a c
are_members low f a b c p is =
    let longer : length b ≡ 1 + length c = rw is (omega arith) in (
      omega (arith, p.0),
      λ depth n deep enough. let put = p.1 depth n no_members deep enough in put.2 ∙ members_over (value depth) (f no_members) put.0 b c put.1 (rw is refl),
    )

is_object : (low : ℕ) (ms : Members) (old mid new : List Token) (depth : ℕ) → 0 < depth → low ≤ depth - 1 → old ≡ Token.begin_object ∷ mid → AreMembers low ms mid new
    → converted of_json (value depth old) ≡ Some (object ms, new)
is_object low ms old mid new depth some deep is m =
    ap (converted of_json) (ap (value depth) is ∙ value-begin_object depth mid some) ∙ of_object (members (value (depth - 1)) (length mid) mid)
    ∙ ap (parse_map object) (m.1 (depth - 1) (length mid) deep (omega arith))

-- a key and an object in whose members nothing nests
pub puts_object : (k : List ℕ) (ms : Members) (a b c d : List Token) → a ≡ Token.key k ∷ b → b ≡ Token.begin_object ∷ c → AreMembers 0 ms c d → Puts 1 (put k (object ms)) a d
puts_object k ms a b c d keyed opened m =
    let longer : length a ≡ 1 + length b = rw keyed (omega arith) in
    let more : length b ≡ 1 + length c = rw opened (omega arith) in (
      omega (arith, m.0),
      λ depth n found deep enough. (
        n - 1,
        omega (arith, m.0),
        member_read (value depth) found n k a b d (object ms) (omega arith) (rw keyed refl) (is_object 0 ms b c d depth (omega arith) (omega arith) opened m),
      ),
    )

-- ---- what a step finds

-- the text of a number is read as that number
pub decimal_number : (z : ℤ) → IsSmall z → number_of (signed_decimal z) ≡ Some (of_integer z)
decimal_number (pos n) h = number_of-decimal n (omega (arith, h))
decimal_number (negsuc n) h = number_of-negative n (omega (arith, h))

pub number_value : (old new : List Token) (found : Option ℤ) → IfSome found IsSmall → IfSome found (λ z. old ≡ Token.number (signed_decimal z) ∷ new) → IfSome found (λ z. IsValue (whole z) old new)
number_value old new None small is = tt
number_value old new (Some z) small is = is_number old new (signed_decimal z) z is (decimal_number z small)

pub string_value : (old new : List Token) (found : Option (Bor (List ℕ))) → IfSome found (λ s. old ≡ Token.string s.now ∷ new) → IfSome found (λ s. IsValue (string s.now) old new)
string_value old new None is = tt
string_value old new (Some s) is = is_string old new s.now is

pub value_member : {X : Type 0} (seen : X → Data) (k : List ℕ) (old mid new : List Token) (found : Option X) → old ≡ Token.key k ∷ mid → IfSome found (λ x. IsValue (seen x) mid new) → IfSome found (λ x. Puts 0 (put k (seen x)) old new)
value_member seen k old mid new None is h = tt
value_member seen k old mid new (Some x) is h = puts_member 0 k (seen x) old mid new is h

pub ask_puts : (a : WrittenAsk) (t0 t1 t2 t3 t4 t5 t6 : List Token) → Puts 0 (put (codes "k") (whole a.k)) t0 t1 → Puts 0 (put (codes "dur") (whole a.dur)) t1 t2 → Puts 0 (put (codes "value") (whole a.value)) t2 t3
    → Puts 0 (with_due a.due) t3 t4 → Puts 0 (put (codes "class") (string a.class.now)) t4 t5 → t5 ≡ Token.end_object ∷ t6 → AreMembers 0 (ask_members a) t0 t6
ask_puts a t0 t1 t2 t3 t4 t5 t6 k dur value due class end =
    let two = puts_both 0 (put (codes "k") (whole a.k)) (put (codes "dur") (whole a.dur)) t0 t1 t2 k dur in
    let three = puts_both 0 (λ ms. put (codes "dur") (whole a.dur) (put (codes "k") (whole a.k) ms)) (put (codes "value") (whole a.value)) t0 t2 t3 two value in
    let four = puts_both 0 (λ ms. put (codes "value") (whole a.value) (put (codes "dur") (whole a.dur) (put (codes "k") (whole a.k) ms))) (with_due a.due) t0 t3 t4 three due in
    let five = puts_both 0 (λ ms. with_due a.due (put (codes "value") (whole a.value) (put (codes "dur") (whole a.dur) (put (codes "k") (whole a.k) ms)))) (put (codes "class") (string a.class.now)) t0 t4 t5 four class in
    are_members 0 (λ ms. put (codes "class") (string a.class.now) (with_due a.due (put (codes "value") (whole a.value) (put (codes "dur") (whole a.dur) (put (codes "k") (whole a.k) ms))))) t0 t5 t6 five end

pub ask_member : (a b c d : List Token) (found : Option WrittenAsk) → a ≡ Token.key (codes "ask") ∷ b → b ≡ Token.begin_object ∷ c → IfSome found (λ ask. AreMembers 0 (ask_members ask) c d)
    → IfSome found (λ ask. Puts 1 (put (codes "ask") (object (ask_members ask))) a d)
ask_member a b c d None keyed opened m = tt
ask_member a b c d (Some ask) keyed opened m = puts_object (codes "ask") (ask_members ask) a b c d keyed opened m

pub job_puts : (j : WrittenJob) (t0 t1 t2 t3 t4 t5 : List Token) → Puts 0 (put (codes "at") (whole j.at)) t0 t1 → Puts 0 (put (codes "arrive") (string j.name.now)) t1 t2 → Puts 0 (put (codes "late") (whole j.late)) t2 t3
    → Puts 1 (put (codes "ask") (object (ask_members j.ask))) t3 t4 → t4 ≡ Token.end_object ∷ t5 → AreMembers 1 (job_members j) t0 t5
job_puts j t0 t1 t2 t3 t4 t5 at name late ask end =
    let two = puts_both 0 (put (codes "at") (whole j.at)) (put (codes "arrive") (string j.name.now)) t0 t1 t2 at name in
    let three = puts_both 0 (λ ms. put (codes "arrive") (string j.name.now) (put (codes "at") (whole j.at) ms)) (put (codes "late") (whole j.late)) t0 t2 t3 two late in
    let flat = puts_within (λ ms. put (codes "late") (whole j.late) (put (codes "arrive") (string j.name.now) (put (codes "at") (whole j.at) ms))) t0 t3 three in
    let four = puts_both 1 (λ ms. put (codes "late") (whole j.late) (put (codes "arrive") (string j.name.now) (put (codes "at") (whole j.at) ms))) (put (codes "ask") (object (ask_members j.ask))) t0 t3 t4 flat ask in
    are_members 1 (λ ms. put (codes "ask") (object (ask_members j.ask)) (put (codes "late") (whole j.late) (put (codes "arrive") (string j.name.now) (put (codes "at") (whole j.at) ms)))) t0 t4 t5 four end

pub cancel_puts : (c : WrittenCancel) (t0 t1 t2 t3 : List Token) → Puts 0 (put (codes "at") (whole c.at)) t0 t1 → Puts 0 (put (codes "cancel") (string c.name.now)) t1 t2 → t2 ≡ Token.end_object ∷ t3 → AreMembers 1 (cancel_members c) t0 t3
cancel_puts c t0 t1 t2 t3 at name end =
    let both = puts_both 0 (put (codes "at") (whole c.at)) (put (codes "cancel") (string c.name.now)) t0 t1 t2 at name in
    let flat = puts_within (λ ms. put (codes "cancel") (string c.name.now) (put (codes "at") (whole c.at) ms)) t0 t2 both in
    are_members 1 (λ ms. put (codes "cancel") (string c.name.now) (put (codes "at") (whole c.at) ms)) t0 t2 t3 flat end

-- the whole text
pub reads_object : (text : List ℕ) (ms : Members) (a b c : List Token) → a ≡ tokens text → a ≡ Token.begin_object ∷ b → AreMembers 1 ms b c → c ≡ [] → read text ≡ Some (object ms)
reads_object text ms a b c all opened m none = whole_read (value 127 (tokens text)) (object ms) (rw none at (is_object 1 ms (tokens text) b c 127 (omega arith) (omega arith) (sym all ∙ opened) m))

-- ---- what the members say

pub ask_read : (unit k dur value deadline : ℕ) (class : Class) (set : Option (List ℕ)) (n m v d : ℤ) (c : List ℕ) → number_in 1 4096 (whole n) ≡ Some k → number_in 1 10000 (whole m) ≡ Some dur
    → worth_in unit (whole v) ≡ Some value → number_in 1 20000 (whole d) ≡ Some deadline → class_named c ≡ Some class
    → SaysAsk unit (object (put (codes "class") (string c) (put (codes "deadline") (whole d) (with_set set (put (codes "value") (whole v) (put (codes "dur") (whole m) (put (codes "k") (whole n) no_members)))))))
    (record { k = k; set = unwrap_or set (codes "*"); dur = dur; value = value; deadline = deadline; prefer = None; class = class; elastic = false })
unfolding ask_keys ask_at
ask_read unit k dur value deadline class None n m v d c e1 e2 e3 e4 e5 = record { keys = refl; value = rw (e1, e2, e3, e4, e5) refl }
ask_read unit k dur value deadline class (Some s) n m v d c e1 e2 e3 e4 e5 = record { keys = refl; value = rw (e1, e2, e3, e4, e5) refl }

pub arrival_read : (unit at : ℕ) (late : ℤ) (name : List ℕ) (a : AskText) (n z : ℤ) (s : List ℕ) (ask : Members) → slot_in (whole n) ≡ Some at → name_in (string s) ≡ Some name → late_of (Some (whole z)) ≡ Some late
    → SaysAsk unit (object ask) a
    → SaysEvent unit (object (put (codes "ask") (object ask) (put (codes "late") (whole z) (put (codes "arrive") (string s) (put (codes "at") (whole n) no_members))))) at (arrives name late (asked a))
unfolding event_in event_key arrival_notice
arrival_read unit at late name a n z s ask e1 e2 e3 h = record { object = refl; event = rw (e1, h.keys, e2, e3, h.value) refl }

pub cancel_read : (unit at : ℕ) (name : List ℕ) (n : ℤ) (s : List ℕ) → slot_in (whole n) ≡ Some at → name_in (string s) ≡ Some name
    → SaysEvent unit (object (put (codes "cancel") (string s) (put (codes "at") (whole n) no_members))) at (cancels name)
unfolding event_in event_key
cancel_read unit at name n s e1 e2 = record { object = refl; event = rw (e1, e2) refl }

pub star_or : (set : Option (Bor (List ℕ))) (star : Bor (List ℕ)) → star.now ≡ codes "*" → (unwrap_or set star).now ≡ unwrap_or (option_map (λ s. s.now) set) (codes "*")
star_or None star e = e
star_or (Some set) star e = refl

said_on : (unit : ℕ) (line text : List ℕ) (at : ℕ) (n : Notice) → IsUtf8 line → text ≡ line → TextSays unit text at n → event_on unit line ≡ Ok (at, n)
said_on unit line text at n utf8 same (d, found, says) =
    let object : object_in line ≡ Ok d = is_json line d utf8 (rw same at found) ∙ rw says.object refl in
    rw object says.event

-- what a text says, its line does
pub said_by : (unit : ℕ) (line text : List ℕ) (found : Option (ℕ × code.Notice)) → IsUtf8 line → text ≡ line → IfSome found (λ e. TextSays unit text e.0 (notice e.1)) → IfSome found (λ e. event_on unit line ≡ Ok (e.0, notice e.1))
said_by unit line text None utf8 same h = tt
said_by unit line text (Some e) utf8 same h = said_on unit line text e.0 (notice e.1) utf8 same h
