mod FactLists
mod FeatureNames
