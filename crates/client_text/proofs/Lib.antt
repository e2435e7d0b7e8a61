mod OpLaws
