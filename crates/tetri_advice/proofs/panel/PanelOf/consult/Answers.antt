use Rattle.std.proofs.Common.{◌≡◌, ◌+◌, ◌<◌, ◌≤◌, [], ◌∷◌, ◌++◌, length, set, true, false, refl, ap, ◌∙◌, arith, take, drop, not, vec_len, vec_capacity}
use Rattle.tetri_advice.specs.Asked.{nobody}
use Rattle.tetri_advice.proofs.panel.PanelOf.consult.Goals as goal
use Rattle.tetri_advice.proofs.panel.PanelOf.consult.Goals.{in-Given+in_ok-push-in-Given+in_ok-push-in-Given-2, in-Struck+in_ok-push-in-Struck, in-Out+in_ok-push-in-Out, in-Missed+in_ok-push-in-Missed}
use Rattle.tetri_advice.proofs.SeatLemmas.{asked_given, asked_struck, asked_out, asked_missed, rest_stays, rest_leaves, count_by-push, missed_heard, missed_unheard, missed_none}

pub loop-asked-init : goal.loop-asked-init
loop-asked-init g c =
    let h = c.in_ok-heard.ensures.items in
    let m = c.in_ok-given.ensures.items in
    record {
      asked = rw (h, m) nobody;
      rest = refl;
      missed = missed_none _ _ (omega arith) h;
      count_is = omega (arith, c.args.self.now.seats.ok.0);
      heard_len = c.in_ok-heard.ensures.len;
      given_len = omega (arith, c.in_ok-given.ensures.len);
      heard_room = c.in_ok-heard.ensures.capacity;
      given_room = c.in_ok-given.ensures.capacity;
      place_le = omega arith;
      seats_len = omega arith;
    }

pub loop-asked-preserved : goal.loop-asked-preserved
loop-asked-preserved g c =
    let i = c.loop-asked.invariant in
    let x = c.index_mut.result.now in
    let y = c.ask.new.self in
    let pl : c.loop-asked.place < length c.loop-asked.self.seats.items = omega (arith, c.loop-asked.self.seats.ok.0) in
    let kl : c.loop-asked._asked < length c.args.self.now.seats.items = omega arith in
    elim c.match-ask.branch [
      | in-Given+in_ok-push-in-Given+in_ok-push-in-Given-2 w ↦
          let he : c.match-ask.heard.items ≡ c.loop-asked.heard.items ++ true ∷ [] = ap (λ z. z.items) w.heard-is ∙ w.in_ok-push-in-Given.ensures.items in
          let hv : vec_len c.match-ask.heard ≡ vec_len c.loop-asked.heard + 1 = ap (λ z. z.len) w.heard-is ∙ w.in_ok-push-in-Given.ensures.len in
          let hc : vec_capacity c.loop-asked.heard ≤ vec_capacity c.match-ask.heard = rw w.heard-is w.in_ok-push-in-Given.ensures.capacity in
          let hl : length c.loop-asked.heard.items ≡ c.loop-asked._asked = omega (arith, c.loop-asked.heard.ok.0) in
          let me = count_by-push not c.loop-asked.heard.items true in
          let sl : vec_len c.match-ask.self.seats ≡ vec_len c.loop-asked.self.seats = ap (λ z. z.seats.len) w.self-is in
          let sm = w.missed-is in
          let gv = w.given-is in
          let ge : c.match-ask.given.items ≡ c.loop-asked.given.items ++ w.in-Given.said ∷ [] = ap (λ z. z.items) w.given-is ∙ w.in_ok-push-in-Given-2.ensures.items in
          let e : c.match-ask.self.seats.items ≡ set c.loop-asked.self.seats.items c.loop-asked.place c.ask.new.self = ap (λ z. z.seats.items) w.self-is in
          record {
            asked = rw w.place-is (asked_given _ _ _ _ _ _ _ _ _ _ _ x y w.in-Given.said i.asked i.rest kl pl c.index_mut.ensures.value e he ge w.in-Given.ensures);
            rest = rw w.place-is (rest_stays _ _ _ _ _ x y i.rest kl pl e);
            missed = missed_heard _ _ _ _ _ _ i.missed sm he;
            count_is = i.count_is;
            heard_len = omega arith;
            given_len = rw gv (omega (arith, w.in_ok-push-in-Given-2.ensures.len));
            heard_room = omega arith;
            given_room = rw gv (omega (arith, w.in_ok-push-in-Given-2.ensures.capacity));
            place_le = omega arith;
            seats_len = omega arith;
          }
      | in-Struck+in_ok-push-in-Struck w ↦
          let he : c.match-ask.heard.items ≡ c.loop-asked.heard.items ++ true ∷ [] = ap (λ z. z.items) w.heard-is ∙ w.in_ok-push-in-Struck.ensures.items in
          let hv : vec_len c.match-ask.heard ≡ vec_len c.loop-asked.heard + 1 = ap (λ z. z.len) w.heard-is ∙ w.in_ok-push-in-Struck.ensures.len in
          let hc : vec_capacity c.loop-asked.heard ≤ vec_capacity c.match-ask.heard = rw w.heard-is w.in_ok-push-in-Struck.ensures.capacity in
          let hl : length c.loop-asked.heard.items ≡ c.loop-asked._asked = omega (arith, c.loop-asked.heard.ok.0) in
          let me = count_by-push not c.loop-asked.heard.items true in
          let sl : vec_len c.match-ask.self.seats ≡ vec_len c.loop-asked.self.seats = ap (λ z. z.seats.len) w.self-is in
          let sm = w.missed-is in
          let gv = w.given-is in
          let e : c.match-ask.self.seats.items ≡ set c.loop-asked.self.seats.items c.loop-asked.place c.ask.new.self = ap (λ z. z.seats.items) w.self-is in
          record {
            asked = rw (w.place-is, w.given-is) (asked_struck _ _ _ _ _ _ _ _ _ _ x y i.asked i.rest kl pl c.index_mut.ensures.value e he w.in-Struck.ensures);
            rest = rw w.place-is (rest_stays _ _ _ _ _ x y i.rest kl pl e);
            missed = missed_heard _ _ _ _ _ _ i.missed sm he;
            count_is = i.count_is;
            heard_len = omega arith;
            given_len = rw w.given-is (omega arith);
            heard_room = omega arith;
            given_room = rw w.given-is i.given_room;
            place_le = omega arith;
            seats_len = omega arith;
          }
      | in-Out+in_ok-push-in-Out w ↦
          let he : c.match-ask.heard.items ≡ c.loop-asked.heard.items ++ true ∷ [] = ap (λ z. z.items) w.heard-is ∙ w.in_ok-push-in-Out.ensures.items in
          let hv : vec_len c.match-ask.heard ≡ vec_len c.loop-asked.heard + 1 = ap (λ z. z.len) w.heard-is ∙ w.in_ok-push-in-Out.ensures.len in
          let hc : vec_capacity c.loop-asked.heard ≤ vec_capacity c.match-ask.heard = rw w.heard-is w.in_ok-push-in-Out.ensures.capacity in
          let hl : length c.loop-asked.heard.items ≡ c.loop-asked._asked = omega (arith, c.loop-asked.heard.ok.0) in
          let me = count_by-push not c.loop-asked.heard.items true in
          let sl : vec_len c.match-ask.self.seats + 1 ≡ vec_len c.loop-asked.self.seats = ap (λ z. z.seats.len + 1) w.self-is ∙ w.remove.ensures.len in
          let sm = w.missed-is in
          let gv = w.given-is in
          let e : c.match-ask.self.seats.items ≡ take c.loop-asked.place (set c.loop-asked.self.seats.items c.loop-asked.place c.ask.new.self) ++ drop (c.loop-asked.place + 1) (set c.loop-asked.self.seats.items c.loop-asked.place c.ask.new.self) = ap (λ z. z.seats.items) w.self-is ∙ w.remove.ensures.by_index.2 in
          record {
            asked = rw (w.place-is, w.given-is) (asked_out _ _ _ _ _ _ _ _ _ _ x y i.asked i.rest kl pl c.index_mut.ensures.value e he w.in-Out.ensures);
            rest = rw w.place-is (rest_leaves _ _ _ _ _ x y i.rest kl pl e);
            missed = missed_heard _ _ _ _ _ _ i.missed sm he;
            count_is = i.count_is;
            heard_len = omega arith;
            given_len = rw w.given-is (omega arith);
            heard_room = omega arith;
            given_room = rw w.given-is i.given_room;
            place_le = omega arith;
            seats_len = omega arith;
          }
      | in-Missed+in_ok-push-in-Missed w ↦
          let he : c.match-ask.heard.items ≡ c.loop-asked.heard.items ++ false ∷ [] = ap (λ z. z.items) w.heard-is ∙ w.in_ok-push-in-Missed.ensures.items in
          let hv : vec_len c.match-ask.heard ≡ vec_len c.loop-asked.heard + 1 = ap (λ z. z.len) w.heard-is ∙ w.in_ok-push-in-Missed.ensures.len in
          let hc : vec_capacity c.loop-asked.heard ≤ vec_capacity c.match-ask.heard = rw w.heard-is w.in_ok-push-in-Missed.ensures.capacity in
          let hl : length c.loop-asked.heard.items ≡ c.loop-asked._asked = omega (arith, c.loop-asked.heard.ok.0) in
          let me = count_by-push not c.loop-asked.heard.items false in
          let sl : vec_len c.match-ask.self.seats ≡ vec_len c.loop-asked.self.seats = ap (λ z. z.seats.len) w.self-is in
          let sm = w.missed-is in
          let gv = w.given-is in
          let e : c.match-ask.self.seats.items ≡ set c.loop-asked.self.seats.items c.loop-asked.place c.ask.new.self = ap (λ z. z.seats.items) w.self-is in
          record {
            asked = rw (w.place-is, w.given-is) (asked_missed _ _ _ _ _ _ _ _ _ _ x y i.asked i.rest kl pl c.index_mut.ensures.value e he w.in-Missed.ensures);
            rest = rw w.place-is (rest_stays _ _ _ _ _ x y i.rest kl pl e);
            missed = missed_unheard _ _ _ _ _ _ i.missed (sm ∙ w.saturating_add-missed.ensures) he;
            count_is = i.count_is;
            heard_len = omega arith;
            given_len = rw w.given-is (omega arith);
            heard_room = omega arith;
            given_room = rw w.given-is i.given_room;
            place_le = omega arith;
            seats_len = omega arith;
          }
    ]
