use Rattle.pua_why.proofs.Common.{◌≡◌, ℕ, List, ◌+◌, ◌++◌, append_assoc, ap, sym, ◌∙◌, refl, string_bytes, codes, decimal, on_ok_weaker}
use Rattle.pua_why.proofs.Common.{Tree, Spot}
use Rattle.std.specs.Fmt.{digits}
use Rattle.pua_path.specs.Resolution.{most_links}
use Rattle.pua_path.specs.declared.traced.Stop.{Stop}
use Rattle.pua_path.specs.declared.traced.Stop.TheVariants.{LinkBeyond}
use Rattle.pua_path.specs.declared.traced.PathFault.TheVariants.{Stops}
use Rattle.pua_why.specs.Texts.{path_fault_text, spot_text}
use Rattle.pua_why.proofs.texts.push_stop.Goals as goal

-- the number of the first link that is not followed
link_words : codes " is link 33" ≡ codes " is link " ++ decimal (most_links + 1)
unfolding digits
link_words = refl

link_told : (t : Tree) (old : List ℕ) (spot : Spot) (stop : Stop) → stop ≡ LinkBeyond spot →
    old ++ (spot_text t spot ++ codes " is link 33") ≡ old ++ path_fault_text t (Stops stop)
link_told t old spot stop is =
    ap (λ words. old ++ (spot_text t spot ++ words)) link_words
    ∙ ap (λ words. old ++ words) (sym (append_assoc (spot_text t spot) (codes " is link ") (decimal (most_links + 1))))
    ∙ ap (λ s. old ++ path_fault_text t (Stops s)) (sym is)

pub returns-in-LinkBeyond-clause-text : goal.returns-in-LinkBeyond-clause-text
returns-in-LinkBeyond-clause-text g c =
    on_ok_weaker c.push_at-in-LinkBeyond.result (λ so. so ∙
    link_told c.args.paths.now.tree _ _ _ c.in-LinkBeyond.is) c.push_at-in-LinkBeyond.ensures.text

pub returns-in-NoEntry-clause-text : goal.returns-in-NoEntry-clause-text
returns-in-NoEntry-clause-text g c = on_ok_weaker c.push_at.result (λ so. so ∙
    ap (λ stop. string_bytes c.args.text.now ++ path_fault_text c.args.paths.now.tree (Stops stop)) (sym c.in-NoEntry.is)) c.push_at.ensures.text

pub returns-in-NoDirectory-clause-text : goal.returns-in-NoDirectory-clause-text
returns-in-NoDirectory-clause-text g c = on_ok_weaker c.push_at-in-NoDirectory.result (λ so. so ∙
    ap (λ stop. string_bytes c.args.text.now ++ path_fault_text c.args.paths.now.tree (Stops stop)) (sym c.in-NoDirectory.is))
    c.push_at-in-NoDirectory.ensures.text
