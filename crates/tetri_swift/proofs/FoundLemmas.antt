-- What a search promises, from its marks.
use Rattle.std.proofs.Common.{◌≡◌, ℕ, ◌≤◌, sym, ap, ◌∙◌, subst, arith, [], ◌∷◌, length, Ok}
use Rattle.std.specs.Prelude.{option_map}
use Rattle.tetri_ip.specs.Points.{box_of}
use Rattle.tetri_ip.specs.declared.programs.Program.{Program}
use Rattle.tetri_cert.specs.Cells.{point_of}
use Rattle.tetri_cert.specs.Trees.{nodes_in, tree_bound}
use Rattle.tetri_search.specs.declared.searching.Found.{Found}
use Rattle.tetri_search.specs.Follow.{best_behind, last_whole}
use Rattle.tetri_search.specs.Laws.{IsBestPoint}
use Rattle.tetri_search.proofs.LastLemmas.{last_in_box, last_worth}
use Rattle.tetri_swift.specs.Follow.{Follows}
use Rattle.tetri_swift.specs.Found.{IsFound}
use Rattle.tetri_swift.proofs.CountLemmas.{follows_enough}
use Rattle.tetri_swift.proofs.FollowLemmas.{best_least, follows_plain, follows_rise, follows_settled, follows_short, follows_spent, follows_wholes, follows_within}

pub found_is : (p : Program) (low budget n : ℕ) (f : Found) → n ≡ length p.costs.items → Follows p budget (box_of p ∷ []) low 0 f.marks → tree_bound p f.marks ≡ Ok f.bound → f.nodes ≡ nodes_in f.marks → f.best ≡ best_behind low f.marks
    → option_map (λ v. v.items) f.last ≡ option_map (point_of n) (last_whole f.marks) → IsFound p low budget f
found_is p low budget n f e w b u k l =
    let first : 0 ≤ budget = omega arith in
    let wholes = follows_wholes p budget (box_of p ∷ []) low 0 f.marks w in
    record {
      bound = b;
      nodes = u;
      within = (let h = follows_within p budget (box_of p ∷ []) low 0 f.marks first w in omega arith);
      spent = λ r. (let h = follows_spent p budget (box_of p ∷ []) low 0 f.marks first w r in omega arith);
      settled = λ r. subst (λ m. f.bound ≤ m) (sym k) (follows_settled p low budget f.marks f.bound w b r);
      no_rest = λ h. follows_enough p low budget f.marks h w;
      best = k;
      least = subst (λ m. low ≤ m) (sym k) (best_least low f.marks);
      last = l ∙ ap (λ m. option_map (point_of m) (last_whole f.marks)) e;
      point = last_in_box p n f.marks f.last e wholes l;
      worth = last_worth p n low f.best f.marks f.last e (subst (λ m. IsBestPoint p low (last_whole f.marks) m) (sym k) (follows_rise p budget (box_of p ∷ []) low 0 f.marks w)) l;
      plain = follows_plain p budget (box_of p ∷ []) low 0 f.marks w;
      short = λ most c r. follows_short p budget (box_of p ∷ []) low 0 f.marks most w c r;
    }
