mod SwapLaws
